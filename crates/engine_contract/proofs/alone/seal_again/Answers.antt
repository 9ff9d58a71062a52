use Rattle.std.proofs.lemmas.Result.{IfOk-weaker}
use Rattle.engine_contract.specs.Past.{EachPast}
use Rattle.engine_contract.specs.Calls.{SealsRun}
use Rattle.engine_contract.proofs.alone.seal_again.Goals as goal

pub returns-clause-given : goal.returns-clause-given
returns-clause-given g c =
    let stands = g.E.LocalEngine.stands in
    IfOk-weaker _ (λ s. EachPast stands c.unseal.new.self (SealsRun c.args.tid s)) (λ s. EachPast stands c.args.engine.now (SealsRun c.args.tid s))
    (λ s h start lines before. h start lines (c.unseal.ensures start lines _ (c.in_ok-_first.ensures.sealed start lines before)))
    c.seal-2.ensures.given
