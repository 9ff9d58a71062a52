use Rattle.mdb_base.proofs.ForCallers.{two_pieces}
use Rattle.byte_numbers.specs.Numbers.{number}
use Rattle.record_fields.specs.Named.{a_site, an_engine, a_protocol, a_tid, writes}
use Rattle.record_fields.specs.Sums.{maybe, tids, doubtful}
use Rattle.site_journal.proofs.encoding.put_sum.Goals as goal

pub returns-clause-bytes : goal.returns-clause-bytes
returns-clause-bytes c =
    let s = c.args.sum.now in
    let ninth = two_pieces _ _ _ (tids.spelling s.locals) (doubtful.spelling s.doubtful) c.put_list.ensures.bytes c.put_list-2.ensures.bytes in
    let eighth = two_pieces _ _ _ (writes.spelling s.rows) _ c.put_writes.ensures.bytes ninth in
    let seventh = two_pieces _ _ _ ((maybe a_tid).spelling s.owner) _ c.put_maybe_tid.ensures.bytes eighth in
    let sixth = two_pieces _ _ _ (number 8 s.published) _ c.put_u64-2.ensures.bytes seventh in
    let fifth = two_pieces _ _ _ (number 8 s.counter) _ c.put_u64.ensures.bytes sixth in
    let fourth = two_pieces _ _ _ (number 4 s.epoch) _ c.put_u32.ensures.bytes fifth in
    let third = two_pieces _ _ _ (a_protocol.spelling s.protocol) _ c.put_protocol.ensures.bytes fourth in
    let second = two_pieces _ _ _ (an_engine.spelling s.engine) _ c.put_engine.ensures.bytes third in
    two_pieces _ _ _ (a_site.spelling s.site) _ c.put_site.ensures.bytes second
