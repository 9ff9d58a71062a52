use Rattle.std.proofs.Common.{rules, tests, sym, ◌∙◌, ◌==◌}
use Rattle.std.specs.Int.RustNames.{bit_and}
use Rattle.std.proofs.lemmas.Iterator.{YieldsList-from_slice}
use Rattle.std.proofs.lemmas.Iterator.Search.{all_from_yields_List}
use Rattle.mdb_base.proofs.ForCallers.{each_of-list_all}
use Rattle.global_exec.specs.declared.policy.SiteSet.{SiteSet}
use Rattle.conservative_take.proofs.have_no_bit.Goals as goal

pub returns-clause-sets : goal.returns-clause-sets
returns-clause-sets c =
    all_from_yields_List (λ (o : SiteSet). bit_and c.args.own o.0 == 0) _ _ _ c.all.ensures.ran (YieldsList-from_slice c.args.others.now cc) (λ x b q k. search (rules, tests))
    ∙ sym (each_of-list_all (λ (o : SiteSet). bit_and c.args.own o.0 == 0) c.args.others.now)
