use Rattle.std.proofs.Common.{◌∙◌}
use Rattle.conservative_take.proofs.Apart.{apart_from_each}
use Rattle.conservative_take.proofs.ConservativeTakePolicy.may_take.Goals as goal

pub returns : goal.returns
returns c = c.have_no_bit.ensures.sets ∙ apart_from_each c.args.own c.have_no_bit.ensures.byte c.args.others.now
