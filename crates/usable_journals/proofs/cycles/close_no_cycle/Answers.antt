use Rattle.std.proofs.Common.{List, ◌≡◌, ◌↔◌, true, reverse, sym, subst}
use Rattle.order_laws.specs.Tickets.{HasNoCycle, OneEach, Ticketed}
use Rattle.fed_rules.specs.Usable.{coord_read}
use Rattle.usable_journals.proofs.Committing.{one_each}
use Rattle.usable_journals.proofs.cycles.close_no_cycle.Goals as goal

pub are_cycle_free-requires : goal.are_cycle_free-requires
are_cycle_free-requires c =
    subst (λ (cs : List Ticketed). OneEach cs) (sym c.in_ok-attempts.ensures) (one_each (coord_read (reverse c.args.records.now)) c.requires)

pub returns : goal.returns
returns c = subst (λ (cs : List Ticketed). (c.are_cycle_free.result ≡ true) ↔ HasNoCycle cs) c.in_ok-attempts.ensures c.are_cycle_free.ensures
