use Rattle.std.proofs.Common.{◌≡◌, ◌≤◌, length, take, vec_len}
use Rattle.std.specs.Vec.{vec_capacity}
use Rattle.mdb_base.specs.declared.names.Tid.{Tid}
use Rattle.prepared_state.specs.Book.{IsByTid, doubt_about}
use Rattle.prepared_state.proofs.book.PreparedBook.restore.Given as goal

abbrev pub invariant-loop-doubt : goal.invariant-loop-doubt
invariant-loop-doubt l = record {
  order : IsByTid l.listed.items;
  listed : (tid : Tid) → doubt_about tid l.listed.items ≡ doubt_about tid (take l.doubt-index l.doubts);
  count : vec_len l.listed ≡ l.doubt-index;
  room : length l.doubts ≤ vec_capacity l.listed;
}
