use Rattle.std.proofs.Common.{sym, ap, arith}
use Rattle.frame_journal.specs.Records.{entry_frame, spelled_size}
use Rattle.frame_journal.proofs.Entries.{last_entry, last_payload}
use Rattle.frame_journal.proofs.trimming.last_frame_len.Goals as goal

pub payload_len-payload-requires : goal.payload_len-payload-requires
payload_len-payload-requires g c = last_payload g.F.Format.spelling c.args.versions.now c.args.records.now c.index-records-last.result c.requires.side_by_side c.requires.some c.index-records-last.is c.requires.right

pub frame_len-requires : goal.frame_len-requires
frame_len-requires g c = omega (arith, c.payload_len-payload.ensures, last_payload g.F.Format.spelling c.args.versions.now c.args.records.now c.index-records-last.result c.requires.side_by_side c.requires.some c.index-records-last.is c.requires.right)

pub returns : goal.returns
returns g c =
    let spelling = g.F.Format.spelling in
    let last = c.index-records-last.result in
    let size = c.frame_len.ensures (spelling last) (sym c.payload_len-payload.ensures) in
    let one = ap (spelled_size (entry_frame spelling)) (last_entry c.args.versions.now c.args.records.now last c.requires.side_by_side c.requires.some c.index-records-last.is) in
    omega (arith, size, one)
