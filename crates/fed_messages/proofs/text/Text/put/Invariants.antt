use Rattle.std.proofs.Common.{◌≡◌, ◌+◌, ◌++◌, length, take}
use Rattle.fed_messages.proofs.text.Text.put.Given as goal

abbrev pub invariant-loop-byte : goal.invariant-loop-byte
invariant-loop-byte l = record {
  bytes : l.self ≡ l.initial.self ++ take l.byte-index l.piece;
  size : length l.self ≡ length l.initial.self + l.byte-index;
}
