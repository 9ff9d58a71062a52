use Rattle.std.proofs.Common.{◌≡◌, take, reverse}
use Rattle.fed_rules.specs.Usable.{TicketsRise}
use Rattle.usable_journals.specs.SiteTests as tests
use Rattle.usable_journals.proofs.site_tickets.tickets_rise.Given as goal

-- those of the first ones rise
abbrev pub invariant-loop-entry : goal.invariant-loop-entry
invariant-loop-entry l = record {
  floor : l.floor ≡ tests.floor_of (reverse (take l.entry-index l.records));
  rise : TicketsRise (reverse (take l.entry-index l.records));
}
