use Rattle.std.proofs.Common.{List, map, sym, ap, subst, ◌∙◌}
use Rattle.std.proofs.lemmas.List.{take_all}
use Rattle.mdb_base.specs.Rising.{IsRising}
use Rattle.fed_rules.specs.Coord.{send_due}
use Rattle.fed_rules.specs.declared.messages.Due.{Due}
use Rattle.fed_rules.specs.declared.messages.Sent.{Sent}
use Rattle.fed_rules.proofs.ForCallers.{sends_rise}
use Rattle.coord_tables.proofs.messages.send_dues.Goals as goal

pub of_few-requires : goal.of_few-requires
of_few-requires c =
    let items = c.loop-due.invariant ∙ ap (λ (ds : List Due). map (send_due c.args.tid) ds) (take_all c.loop-due.due-index c.as_slice-due-items.result.now c.loop-due-test.false ∙ c.as_slice-due-items.ensures.items) in
    subst (λ (ss : List Sent). IsRising (λ s. s.site.0) ss) (sym items) (sends_rise c.args.tid c.args.dues.now c.as_slice-due-items.ensures.rising)
