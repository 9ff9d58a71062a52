use Rattle.std.proofs.Common.{rules, tests, sym, ◌∙◌}
use Rattle.std.proofs.lemmas.Iterator.{YieldsList-from_slice}
use Rattle.std.proofs.lemmas.Iterator.Search.{any_from_yields_List}
use Rattle.mdb_base.specs.declared.acts.Step.{Step}
use Rattle.mdb_base.specs.Names.{same_site}
use Rattle.mdb_base.proofs.ForCallers.{some_of-list_any}
use Rattle.global_exec.proofs.progress.visits.Goals as goal

pub returns : goal.returns
returns c =
    any_from_yields_List (λ (step : Step). same_site step.site c.args.site) _ _ _ c.any.ensures.ran (YieldsList-from_slice c.args.steps.now cc) (λ x b q k. search (rules, tests))
    ∙ sym (some_of-list_any (λ (step : Step). same_site step.site c.args.site) c.args.steps.now)
