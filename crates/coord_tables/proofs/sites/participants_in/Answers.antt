use Rattle.std.proofs.Common.{List, sym, ap, subst, ◌∙◌}
use Rattle.std.proofs.lemmas.List.{take_all}
use Rattle.mdb_base.specs.Rising.{IsRising}
use Rattle.presumptions.specs.declared.Participant.{Participant}
use Rattle.fed_rules.specs.CoordPast.{participants_of, visits}
use Rattle.mdb_base.proofs.ForCallers.{those_rise}
use Rattle.coord_tables.proofs.sites.participants_in.Goals as goal

pub of-requires : goal.of-requires
of-requires c =
    let items = c.loop-member.invariant ∙ ap (λ (ps : List Participant). participants_of ps c.args.steps.now) (take_all c.loop-member.member-index c.as_slice-member-items.result.now c.loop-member-test.false ∙ c.as_slice-member-items.ensures.items) in
    subst (λ (ps : List Participant). IsRising (λ p. p.site.0) ps) (sym items) (those_rise (λ (p : Participant). p.site.0) (λ (p : Participant). visits p.site c.args.steps.now) c.args.protocols.now c.as_slice-member-items.ensures.rising)
