use Rattle.std.proofs.Common.{rules, tests, sym, ◌∙◌}
use Rattle.std.proofs.lemmas.Iterator.{YieldsList-from_slice}
use Rattle.std.proofs.lemmas.Iterator.Search.{all_from_yields_List}
use Rattle.mdb_base.specs.declared.acts.Step.{Step}
use Rattle.mdb_base.proofs.ForCallers.{each_of-list_all}
use Rattle.actor_tests.specs.OfThree.{is_of_three}
use Rattle.actor_tests.proofs.coordinator.are_at_three.Goals as goal

pub returns : goal.returns
returns c =
    all_from_yields_List (λ (step : Step). is_of_three step.site) _ _ _ c.all.ensures.ran (YieldsList-from_slice c.args.steps.now cc) (λ x b q k. search (rules, tests))
    ∙ sym (each_of-list_all (λ (step : Step). is_of_three step.site) c.args.steps.now)
