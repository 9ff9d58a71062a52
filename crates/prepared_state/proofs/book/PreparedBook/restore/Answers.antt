use Rattle.std.proofs.Common.{arith, ◌∙◌}
use Rattle.prepared_state.proofs.OneMore.{apart_from_front, doubt_about-more}
use Rattle.prepared_state.proofs.book.PreparedBook.restore.Goals as goal

pub insert-requires-clause-apart : goal.insert-requires-clause-apart
insert-requires-clause-apart c =
    c.loop-doubt.invariant.listed _ ∙ apart_from_front c.args.doubts.now c.loop-doubt.doubt-index _ c.requires c.loop-doubt-test.true

pub loop-doubt-preserved : goal.loop-doubt-preserved
loop-doubt-preserved c = record {
  order = c.insert.ensures.order;
  listed = λ tid. rw c.insert.ensures.items (doubt_about-more tid c.args.doubts.now c.loop-doubt.listed.items c.loop-doubt.doubt-index _ c.requires c.loop-doubt-test.true c.loop-doubt.invariant.listed);
  count = omega arith;
  room = omega arith;
}
