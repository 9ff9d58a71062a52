use Rattle.std.proofs.Common.{List, sym, ap, subst, ◌∙◌}
use Rattle.std.proofs.lemmas.List.{take_all}
use Rattle.mdb_base.specs.Rising.{IsRising}
use Rattle.presumptions.specs.declared.Participant.{Participant}
use Rattle.fed_rules.specs.Coord.{decide_to}
use Rattle.fed_rules.specs.declared.messages.Sent.{Sent}
use Rattle.fed_rules.proofs.ForCallers.{decisions_rise}
use Rattle.coord_tables.proofs.messages.decide_to.Goals as goal

pub of_few-requires : goal.of_few-requires
of_few-requires c =
    let items = c.loop-member.invariant ∙ ap (λ (ms : List Participant). decide_to c.args.tid c.args.decision ms) (take_all c.loop-member.member-index c.as_slice-member-items.result.now c.loop-member-test.false ∙ c.as_slice-member-items.ensures.items) in
    subst (λ (ss : List Sent). IsRising (λ s. s.site.0) ss) (sym items) (decisions_rise c.args.tid c.args.decision c.args.members.now c.as_slice-member-items.ensures.rising)
