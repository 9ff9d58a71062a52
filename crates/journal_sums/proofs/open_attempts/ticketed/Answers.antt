use Rattle.std.proofs.Common.{List, sym, ap, subst, ◌∙◌}
use Rattle.std.proofs.lemmas.List.{take_all}
use Rattle.mdb_base.specs.Rising.{IsRising}
use Rattle.presumptions.specs.declared.Participant.{Participant}
use Rattle.fed_rules.specs.CoordRecords.{has_ticket, ticketed}
use Rattle.mdb_base.proofs.ForCallers.{those_rise}
use Rattle.journal_sums.proofs.open_attempts.ticketed.Goals as goal

pub of-requires : goal.of-requires
of-requires c =
    let items = c.loop-participant.invariant ∙ ap (λ (ps : List Participant). ticketed ps c.args.tickets.now) (take_all c.loop-participant.participant-index c.as_slice-participant-items.result.now c.loop-participant-test.false ∙ c.as_slice-participant-items.ensures.items) in
    subst (λ (ps : List Participant). IsRising (λ p. p.site.0) ps) (sym items) (those_rise (λ (p : Participant). p.site.0) (λ (p : Participant). has_ticket c.args.tickets.now p.site) c.args.protocols.now c.as_slice-participant-items.ensures.rising)
