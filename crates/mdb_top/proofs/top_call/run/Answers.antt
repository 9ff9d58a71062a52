use Rattle.std.proofs.Common.{map}
use Rattle.scenario_text.specs.Texts.{scenario_of}
use Rattle.session_outputs.specs.Runs.{running}
use Rattle.mdb_top.specs.Streams.{Stream, stream}
use Rattle.mdb_top.proofs.TopLemmas.{ends_carried}
use Rattle.mdb_top.proofs.top_call.run.Goals as goal

pub returns-in-Ok-clause-ends : goal.returns-in-Ok-clause-ends
returns-in-Ok-clause-ends g c =
    let s = g.S.Source in
    let k = g.K.Sink in
    let seen = g.D.Disk.seen in
    let source : Stream = stream s.tells (s.left c.args.source.now) (s.left c.read_plan.new.source) (s.faults c.args.source.now) (s.faults c.read_plan.new.source) in
    let sink : Stream = stream k.tells (k.written c.args.sink.now) (k.written c.ran.new.sink) (k.faults c.args.sink.now) (k.faults c.ran.new.sink) in
    ends_carried scenario_of (running seen) c.ran.result source sink (map seen c.args.disks.now.items) (map seen c.ran.new.disks.items) c.in-Ok.scenario s.tells (s.left c.args.source.now)
    (c.in-Ok.ensures.read tt) (c.in-Ok.ensures.cause.clean (λ e. cc)) c.in-Ok.ensures.told c.ran.ensures.carries
