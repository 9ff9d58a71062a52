use Rattle.std.proofs.Common.{arith}
use Rattle.ticket_graph.proofs.Entering.{all_left, fewer_left, left_next, left_whole, none_left}
use Rattle.ticket_graph.proofs.cycle_free.are_cycle_free.Goals as goal

pub loop-left-init : goal.loop-left-init
loop-left-init c = left_whole c.args.attempts.items c.requires

pub loop-left-preserved : goal.loop-left-preserved
loop-left-preserved c = left_next c.args.attempts.items c.loop-left.left.items c.keep_entered.new.attempts.items c.loop-left.invariant c.keep_entered.ensures

pub loop-left-smaller : goal.loop-left-smaller
loop-left-smaller c =
    let few = fewer_left c.loop-left.left.items c.keep_entered.new.attempts.items c.keep_entered.ensures in
    omega arith

pub returns-then-len-count : goal.returns-then-len-count
returns-then-len-count c =
    all_left c.args.attempts.items c.loop-left.left.items c.keep_entered.new.attempts.items c.loop-left.invariant c.keep_entered.ensures (omega arith) (omega arith)

pub returns : goal.returns
returns c = none_left c.args.attempts.items c.loop-left.left.items c.loop-left.invariant (omega arith)
