use Rattle.actor_tests.proofs.OfLines.{are_named, is_foreign, set_up_on}
use Rattle.actor_tests.proofs.site.site_of.Goals as goal

pub set_up-requires-clause-named : goal.set_up-requires-clause-named
set_up-requires-clause-named c = are_named c.args.transactions.now c.requires.named

pub returns : goal.returns
returns c = set_up_on c.set_up.result c.set_up.new.disk _ _ (is_foreign _ c.args.transactions.now c.requires.named) c.set_up.ensures.stands
