use Rattle.std.proofs.Common.{rules, tests, sym, ◌∙◌}
use Rattle.std.proofs.lemmas.Iterator.{YieldsList-from_slice}
use Rattle.std.proofs.lemmas.Iterator.Search.{any_from_yields_List}
use Rattle.mdb_base.proofs.ForCallers.{some_of-list_any}
use Rattle.protocol_table.specs.Attempts.{lacks_ack}
use Rattle.protocol_table.proofs.members.lacks_ack.Goals as goal

pub returns : goal.returns
returns c =
    any_from_yields_List (lacks_ack c.args.decision c.args.initiated) _ _ _ c.any.ensures.ran (YieldsList-from_slice c.args.members.now cc) (λ x b q k. search (rules, tests))
    ∙ sym (some_of-list_any (lacks_ack c.args.decision c.args.initiated) c.args.members.now)
