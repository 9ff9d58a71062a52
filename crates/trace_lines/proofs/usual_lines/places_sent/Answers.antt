use Rattle.trace_lines.proofs.UsualWords.{all_sent, none_left}
use Rattle.trace_lines.proofs.usual_lines.places_sent.Goals as goal

pub returns-then-is_empty : goal.returns-then-is_empty
returns-then-is_empty c =
    let behind = c.in-Some.behind.now in
    rw c.in_ok-push.ensures.items
    (all_sent c.args.command.now c.loop-sent.places.items c.in-Some.sent c.args.text.now c.loop-sent.rest.now behind c.loop-sent.invariant.each c.in-Some.ensures.0 c.loop-sent.invariant.spelled c.in-Some.ensures.1
    (none_left behind c.is_empty.result c.is_empty.ensures c.if-is_empty.true))
