use Rattle.mdb_base.proofs.ForCallers.{two_pieces}
use Rattle.byte_numbers.specs.Numbers.{number}
use Rattle.field_bytes.specs.Fields.{tid_bytes}
use Rattle.record_fields.specs.Named.{writes}
use Rattle.site_journal.proofs.encoding.put_record.Goals as goal

pub returns-in-Local-clause-bytes : goal.returns-in-Local-clause-bytes
returns-in-Local-clause-bytes c =
    let l = c.in-Local in
    let second = two_pieces _ _ _ (number 8 l.number) (writes.spelling l.writes) c.put_u64.ensures.bytes c.put_writes-in-Local.ensures.bytes in
    let first = two_pieces _ _ _ (tid_bytes l.tid) _ c.put_tid-in-Local.ensures.bytes second in
    rw l.is (two_pieces _ _ _ (number 1 5) _ c.put_u8-in-Local.ensures.bytes first)
