use Rattle.std.proofs.Common.{rules, tests, sym, ◌∙◌}
use Rattle.std.proofs.lemmas.Iterator.{YieldsList-from_slice}
use Rattle.std.proofs.lemmas.Iterator.Search.{all_from_yields_List}
use Rattle.mdb_base.proofs.ForCallers.{each_of-list_all}
use Rattle.protocol_table.specs.Attempts.{has_voted}
use Rattle.protocol_table.proofs.members.all_voted.Goals as goal

pub returns : goal.returns
returns c =
    all_from_yields_List (has_voted) _ _ _ c.all.ensures.ran (YieldsList-from_slice c.args.members.now cc) (λ x b q k. search (rules, tests))
    ∙ sym (each_of-list_all (has_voted) c.args.members.now)
