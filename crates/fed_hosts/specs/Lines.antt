-- The line that a host makes of what is told of it.
use Rattle.std.specs.Prelude.{ℕ, option_to_list}
use Rattle.mdb_base.specs.declared.names.SiteId.{SiteId}
use Rattle.fed_rules.specs.declared.commands.Stamped.{Stamped}
use Rattle.fed_rules.specs.Story.{place_from}
use Rattle.host_laws.specs.Lines.{next_stamp}
use Rattle.fed_hosts.specs.declared.site_actor.LineParts.{LineParts}

-- the line behind this stamp and so many sent messages
abbrev pub line_of : SiteId → ℕ → ℕ → LineParts → Stamped
line_of site last sent told =
    record {
      stamp = next_stamp last told.after;
      line = record { command = told.command; answer = told.answer; sends = place_from site sent (option_to_list told.send) };
    }
