use Rattle.std.proofs.Common.{Err, map, refl, ◌∙◌, ap}
use Rattle.mdb_top.specs.Streams.{Stream, stream}
use Rattle.mdb_top.proofs.AuditLemmas.{failed_ends, read_ends, unread_ends}
use Rattle.mdb_top.proofs.audit_call.audit.Goals as goal

pub returns-in-Ok-clause-ends : goal.returns-in-Ok-clause-ends
returns-in-Ok-clause-ends g c =
    let s = g.S.Source in
    let k = g.K.Sink in
    let seen = g.D.Disk.seen in
    let source : Stream = stream s.tells (s.left c.args.source.now) (s.left c.read_all.new.source) (s.faults c.args.source.now) (s.faults c.read_all.new.source) in
    let sink : Stream = stream k.tells (k.written c.args.sink.now) (k.written c.audit_text.new.sink) (k.faults c.args.sink.now) (k.faults c.audit_text.new.sink) in
    read_ends c.audit_text.result sink (map seen c.args.disks.now.items) (map seen c.audit_text.new.disks.items) source s.tells (s.left c.args.source.now) c.deref.result.now
    (λ t. c.deref.ensures.value ∙ c.in-Ok.ensures.text t) c.in-Ok.ensures.rest (c.in-Ok.ensures.cause.clean (λ e. cc)) c.audit_text.ensures.ends

pub returns-in-Err-Failed-clause-ends : goal.returns-in-Err-Failed-clause-ends
returns-in-Err-Failed-clause-ends g c =
    let s = g.S.Source in
    let k = g.K.Sink in
    let source : Stream = stream s.tells (s.left c.args.source.now) (s.left c.read_all.new.source) (s.faults c.args.source.now) (s.faults c.read_all.new.source) in
    let sink : Stream = stream k.tells (k.written c.args.sink.now) (k.written c.told.new.sink) (k.faults c.args.sink.now) (k.faults c.told.new.sink) in
    record {
      input = s.left c.args.source.now;
      told = λ t. refl;
      holds = failed_ends source sink (map g.D.Disk.seen c.args.disks.now.items) c.told.result (s.left c.args.source.now) c.told.ensures.status
          (c.in-Err-Failed.ensures.cause.failed (ap Err c.in-Err-Failed.field-0-is)) c.told.ensures.text;
    }

pub returns-in-Err-Memory-clause-ends : goal.returns-in-Err-Memory-clause-ends
returns-in-Err-Memory-clause-ends g c =
    let s = g.S.Source in
    let k = g.K.Sink in
    let source : Stream = stream s.tells (s.left c.args.source.now) (s.left c.read_all.new.source) (s.faults c.args.source.now) (s.faults c.read_all.new.source) in
    let sink : Stream = stream k.tells (k.written c.args.sink.now) (k.written c.told-in-Err-Memory.new.sink) (k.faults c.args.sink.now) (k.faults c.told-in-Err-Memory.new.sink) in
    record {
      input = s.left c.args.source.now;
      told = λ t. refl;
      holds = unread_ends source sink (map g.D.Disk.seen c.args.disks.now.items) c.told-in-Err-Memory.result (s.left c.args.source.now) c.told-in-Err-Memory.ensures.status
          (c.in-Err-Memory.ensures.cause.clean (λ e. (let memory = c.in-Err-Memory.field-0-is in cc))) c.told-in-Err-Memory.ensures.text;
    }
