-- Replies of sites to operations.
use Rattle.std.specs.Prelude.{◌≡◌, true}
use Rattle.mdb_base.specs.declared.names.Tid.{Tid}
use Rattle.fed_rules.specs.declared.events.CoordEvent.{CoordEvent}
use Rattle.fed_rules.specs.declared.events.CoordEvent.TheVariants as Ev
use Rattle.fed_rules.specs.declared.messages.FromSite.TheVariants as From
use Rattle.fed_rules.specs.Coord.{did_counts}
use Rattle.fed_rules.specs.CoordPast.{CoordPast}
use Rattle.global_exec.specs.Pasts.{IsAmong}
use Rattle.coord_tables.specs.declared.replies.Taken.{Taken}
use Rattle.coord_tables.specs.Terms.{Terms}

-- the event that the reply comes
abbrev pub reply_event : Tid → Taken → CoordEvent
reply_event tid taken = Ev.Take taken.site (From.Did tid taken.epoch taken.n taken.reply)

-- the site is declared, and its reply counts
pub record CountsReply (tid : Tid) (taken : Taken) (terms : Terms) (past : CoordPast) : Type 0 where
  pub among : IsAmong taken.site terms.protocols
  pub counts : did_counts past taken.site tid taken.epoch taken.n taken.reply ≡ true
