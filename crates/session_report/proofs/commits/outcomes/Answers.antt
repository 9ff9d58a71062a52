use Rattle.std.proofs.Common.{◌++◌, get_or, List, [], ◌∷◌, sym, ap, ap₂, ◌∙◌}
use Rattle.std.proofs.lemmas.List.{map_more, take_all}
use Rattle.mdb_base.specs.declared.names.Tid.{Tid}
use Rattle.presumptions.specs.declared.Decision.{Decision}
use Rattle.fed_rules.specs.declared.report.Outcome.{Outcome}
use Rattle.session_report.specs.Outcomes.{decision_by, outcomes_by}
use Rattle.session_report.proofs.commits.outcomes.Goals as goal

abbrev any_tid : Tid
any_tid = record { tx = record { 0 = 0 }; attempt = 0 }

pub loop-tid-preserved : goal.loop-tid-preserved
loop-tid-preserved g c = λ by gives.
    c.in_ok-push.ensures.items
    ∙ (ap₂ (λ (os : List Outcome) (d : Decision). os ++ record { tid = get_or c.args.tids.now c.loop-tid.tid-index any_tid; decision = d } ∷ []) (c.loop-tid.invariant by gives) (c.decision-decision.ensures by gives)
    ∙ sym (map_more (λ (tid : Tid). let outcome : Outcome = record { tid = tid; decision = decision_by by tid } in outcome) c.args.tids.now c.loop-tid.tid-index any_tid c.loop-tid-test.true))

pub returns : goal.returns
returns g c = λ by gives. c.loop-tid.invariant by gives ∙ ap (outcomes_by by) (take_all c.loop-tid.tid-index c.args.tids.now c.loop-tid-test.false)
