use Rattle.std.proofs.Common.{is_some, map, sym, ◌∙◌, ap}
use Rattle.session_outputs.specs.Disks.{first_used, sizes_of}
use Rattle.session_outputs.proofs.ForCallers.{are_empty}
use Rattle.mdb_top.specs.Streams.{Stream, stream}
use Rattle.mdb_top.proofs.AuditLemmas.{verdict_ends}
use Rattle.mdb_top.proofs.audit_call.audited.Goals as goal

pub audit-verdict-requires-clause-empty : goal.audit-verdict-requires-clause-empty
audit-verdict-requires-clause-empty g c =
    let seen = g.D.Disk.seen in
    are_empty (map seen c.args.disks.now.items) (ap is_some (ap (λ disks. first_used (sizes_of (map seen disks))) (sym c.as_slice.ensures.value) ∙ (sym c.first_used.ensures ∙ c.in-None.is)))

pub returns-in-None-clause-ends : goal.returns-in-None-clause-ends
returns-in-None-clause-ends g c =
    let k = g.K.Sink in
    let seen = g.D.Disk.seen in
    let sink : Stream = stream k.tells (k.written c.args.sink.now) (k.written c.put_verdict.new.sink) (k.faults c.args.sink.now) (k.faults c.put_verdict.new.sink) in
    let unused = ap is_some (ap (λ disks. first_used (sizes_of (map seen disks))) (sym c.as_slice.ensures.value) ∙ (sym c.first_used.ensures ∙ c.in-None.is)) in
    verdict_ends sink (map seen c.args.disks.now.items) (map seen c.audit-verdict.new.disks.items) c.args.handed c.put_verdict.result c.audit-verdict.result unused c.audit-verdict.ensures.exact
    c.audit-verdict.ensures.headline c.audit-verdict.ensures.cause c.put_verdict.ensures
