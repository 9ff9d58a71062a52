use Rattle.std.proofs.Common.{List, map, take, ap, ◌∙◌, arith}
use Rattle.std.specs.Map.{values_of}
use Rattle.protocol_table.specs.declared.known.Known.{Known}
use Rattle.protocol_table.specs.declared.known.Restored.{Restored}
use Rattle.protocol_table.specs.Attempts.{known_of, restored}
use Rattle.protocol_table.proofs.Named.{apart_from_front}
use Rattle.protocol_table.proofs.table.ProtocolTable.restore.Goals as goal

pub add-requires-clause-apart : goal.add-requires-clause-apart
add-requires-clause-apart c =
    let i = c.loop-attempt.attempt-index in
    let kept = c.args.attempts.now in
    let item = c.attempt-item.result in
    ap (λ (k : Known). known_of k.tid (values_of c.loop-attempt.entries.entries)) c.in_ok-known.ensures
    ∙ ap (λ (vs : List Known). known_of item.tid vs) c.loop-attempt.invariant.listed
    ∙ ap (λ (r : Restored). known_of r.tid (map restored (take i kept))) c.attempt-item.is
    ∙ apart_from_front kept i item c.requires (omega arith)
