use Rattle.std.proofs.Common.{List, not, sym, ap, subst, ◌∙◌}
use Rattle.std.proofs.lemmas.List.{take_all}
use Rattle.mdb_base.specs.Rising.{IsRising}
use Rattle.fed_rules.specs.Site_of.{due_site}
use Rattle.fed_rules.specs.declared.messages.Due.{Due}
use Rattle.coord_tables.specs.Sending.{is_held, passed}
use Rattle.mdb_base.proofs.ForCallers.{those_rise}
use Rattle.coord_tables.proofs.outgoing.passed.Goals as goal

pub of_few-requires : goal.of_few-requires
of_few-requires c =
    let items = c.loop-due.invariant ∙ ap (λ (ds : List Due). passed c.args.may ds) (take_all c.loop-due.due-index c.as_slice-due-items.result.now c.loop-due-test.false ∙ c.as_slice-due-items.ensures.items) in
    subst (λ (ds : List Due). IsRising (λ d. (due_site d).0) ds) (sym items) (those_rise (λ (d : Due). (due_site d).0) (λ (d : Due). not (is_held c.args.may d)) c.args.dues.now c.as_slice-due-items.ensures.rising)
