use Rattle.std.proofs.Common.{map}
use Rattle.mdb_top.specs.Streams.{Stream, stream}
use Rattle.mdb_top.proofs.AuditLemmas.{handed_ends}
use Rattle.mdb_top.proofs.audit_call.audit_text.Goals as goal

pub returns-in-Ok-clause-ends : goal.returns-in-Ok-clause-ends
returns-in-Ok-clause-ends g c =
    let k = g.K.Sink in
    let seen = g.D.Disk.seen in
    let sink : Stream = stream k.tells (k.written c.args.sink.now) (k.written c.audited.new.sink) (k.faults c.args.sink.now) (k.faults c.audited.new.sink) in
    handed_ends c.audited.result sink (map seen c.args.disks.now.items) (map seen c.audited.new.disks.items) c.args.text.now c.in-Ok.handed c.if-text-gt-LONGEST.false c.in-Ok.ensures.exact c.audited.ensures.ends
