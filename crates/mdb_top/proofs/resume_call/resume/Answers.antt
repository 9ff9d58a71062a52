use Rattle.std.proofs.Common.{map}
use Rattle.mdb_top.specs.Streams.{Stream, stream}
use Rattle.mdb_top.proofs.ResumeLemmas.{output_ends, refusal_ends}
use Rattle.mdb_top.proofs.resume_call.resume.Goals as goal

pub returns-in-Ok-clause-ends : goal.returns-in-Ok-clause-ends
returns-in-Ok-clause-ends g c =
    let k = g.K.Sink in
    let seen = g.D.Disk.seen in
    let sink : Stream = stream k.tells (k.written c.args.sink.now) (k.written c.put_made.new.sink) (k.faults c.args.sink.now) (k.faults c.put_made.new.sink) in
    output_ends seen sink (map seen c.args.disks.now.items) (map seen c.resume_output_of.new.disks.items) c.put_made.result c.in-Ok.output c.in-Ok.ensures.output c.in-Ok.ensures.left c.put_made.ensures

pub returns-in-Err-clause-ends : goal.returns-in-Err-clause-ends
returns-in-Err-clause-ends g c =
    let k = g.K.Sink in
    let seen = g.D.Disk.seen in
    let sink : Stream = stream k.tells (k.written c.args.sink.now) (k.written c.put_refusal.new.sink) (k.faults c.args.sink.now) (k.faults c.put_refusal.new.sink) in
    refusal_ends seen sink (map seen c.args.disks.now.items) (map seen c.resume_output_of.new.disks.items) c.put_refusal.result c.in-Err.why c.in-Err.ensures.output c.in-Err.ensures.left c.put_refusal.ensures
