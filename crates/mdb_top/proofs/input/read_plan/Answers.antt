use Rattle.std.proofs.Common.{refl, ◌∙◌}
use Rattle.scenario_text.specs.Texts.{scenario_of}
use Rattle.mdb_top.proofs.InputLemmas.{read_input}
use Rattle.mdb_top.proofs.input.read_plan.Goals as goal

pub returns-in-Ok-clause-told : goal.returns-in-Ok-clause-told
returns-in-Ok-clause-told g c =
    read_input scenario_of g.S.Source.tells (g.S.Source.left c.args.source.now) c.deref.result.now c.scenario_in.result
    (λ t. c.deref.ensures.value ∙ c.in-Ok.ensures.text t) c.scenario_in.ensures.told

pub returns-in-Err-Failed-clause-told : goal.returns-in-Err-Failed-clause-told
returns-in-Err-Failed-clause-told g c = record { input = g.S.Source.left c.args.source.now; told = (λ t. refl); holds = tt }

pub returns-in-Err-Memory-clause-told : goal.returns-in-Err-Memory-clause-told
returns-in-Err-Memory-clause-told g c = record { input = g.S.Source.left c.args.source.now; told = (λ t. refl); holds = tt }
