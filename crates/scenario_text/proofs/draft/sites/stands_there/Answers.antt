use Rattle.std.proofs.Common.{rules, tests, sym, ◌∙◌}
use Rattle.std.proofs.lemmas.Iterator.{YieldsList-from_slice}
use Rattle.std.proofs.lemmas.Iterator.Search.{any_from_yields_List}
use Rattle.mdb_base.proofs.ForCallers.{some_of-list_any}
use Rattle.fed_rules.specs.Plans.{declares}
use Rattle.scenario_text.proofs.draft.sites.stands_there.Goals as goal

pub returns : goal.returns
returns c =
    any_from_yields_List (declares c.args.site) _ _ _ c.any.ensures.ran (YieldsList-from_slice c.args.lines.now cc) (λ x b q k. search (rules, tests))
    ∙ sym (some_of-list_any (declares c.args.site) c.args.lines.now)
