use Rattle.mdb_base.proofs.ForCallers.{two_pieces}
use Rattle.byte_numbers.specs.Numbers.{number}
use Rattle.field_bytes.specs.Fields.{tid_bytes}
use Rattle.record_fields.specs.Named.{writes}
use Rattle.record_fields.proofs.sums.put_prepared.Goals as goal

pub returns-clause-bytes : goal.returns-clause-bytes
returns-clause-bytes c =
    let last = two_pieces _ _ _ (number 8 c.args.ticket) (writes.spelling c.args.writes.now) c.put_u64-2.ensures.bytes c.put_writes.ensures.bytes in
    let third = two_pieces _ _ _ (number 8 c.args.number) _ c.put_u64.ensures.bytes last in
    let second = two_pieces _ _ _ (number 4 c.args.epoch) _ c.put_u32.ensures.bytes third in
    two_pieces _ _ _ (tid_bytes c.args.tid) _ c.put_tid.ensures.bytes second
