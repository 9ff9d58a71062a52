use Rattle.std.proofs.Common.{◌≡◌, ◌+◌, ◌<◌, None, Some, length, slice_get, get_or, take, cond, true, subst, arith}
use Rattle.std.proofs.lemmas.List.{take_more}
use Rattle.std.specs.Ordering.{is_eq}
use Rattle.std.specs.BTreeSet.{contains}
use Rattle.mdb_base.specs.declared.names.Tid.{Tid}
use Rattle.mdb_base.specs.Names.{tid_cmp}
use Rattle.ticket_graph.specs.declared.steps.Step.{Step}
use Rattle.ticket_graph.proofs.StepLemmas.{here, read}
use Rattle.ticket_graph.proofs.Searching.{one_name}
use Rattle.ticket_graph.proofs.find.reached_tids.Goals as goal

pub loop-step-preserved : goal.loop-step-preserved
loop-step-preserved c = λ t.
    let steps = c.args.steps.now in
    let i = c.loop-step.step-index in
    let none : Step = record { attempt = 0; site = record { 0 = 0 }; from = None } in
    let step : Step = get_or steps i none in
    let a = c.index-attempts-step.result in
    let within : i < length steps = omega arith in
    let at : slice_get c.args.attempts.now step.attempt ≡ Some a =
    read c.args.attempts.now step.attempt a (c.requires i step (here steps i none within)) c.index-attempts-step.is in
    let old = contains tid_cmp c.loop-step.tids t in
    let new = contains tid_cmp c.insert.new.self t in
    one_name c.args.attempts.now (take i steps) (take (i + 1) steps) step a t old new (take_more steps i none within) at (c.loop-step.invariant t)
    (subst (λ (tid : Tid). new ≡ cond (is_eq (tid_cmp tid t)) true old) c.tid.ensures (c.in_ok-insert.ensures.updates.0 t))
