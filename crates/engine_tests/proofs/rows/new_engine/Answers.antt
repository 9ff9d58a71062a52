use Rattle.std.proofs.Common.{[], refl}
use Rattle.std.proofs.lemmas.Result.{IfOk-weaker}
use Rattle.engine_contract.specs.Calls.{fresh_start}
use Rattle.engine_contract.specs.Past.{SomePast}
use Rattle.engine_tests.specs.Stages.{IsFresh}
use Rattle.any_engine.specs.Stands.{Stands}
use Rattle.engine_tests.proofs.rows.new_engine.Goals as goal

pub returns : goal.returns
returns c =
    let start = fresh_start c.args.kind c.args.rows.now in
    IfOk-weaker _ (λ engine. Stands engine start []) (λ engine. SomePast Stands engine IsFresh)
    (λ engine stood. record { start = start; lines = []; stood = stood; holds = record { none = refl; nobody = refl; counter = refl; published = refl } })
    c.new.ensures
