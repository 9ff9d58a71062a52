use Rattle.std.proofs.Common.{map}
use Rattle.scenario_text.specs.Texts.{session_of}
use Rattle.session_outputs.specs.Replays.{replaying}
use Rattle.mdb_top.specs.Streams.{Stream, stream}
use Rattle.mdb_top.proofs.TopLemmas.{ends_carried}
use Rattle.mdb_top.proofs.top_call.replay.Goals as goal

pub returns-in-Ok-clause-ends : goal.returns-in-Ok-clause-ends
returns-in-Ok-clause-ends g c =
    let s = g.S.Source in
    let k = g.K.Sink in
    let seen = g.D.Disk.seen in
    let source : Stream = stream s.tells (s.left c.args.source.now) (s.left c.read_session.new.source) (s.faults c.args.source.now) (s.faults c.read_session.new.source) in
    let sink : Stream = stream k.tells (k.written c.args.sink.now) (k.written c.played.new.sink) (k.faults c.args.sink.now) (k.faults c.played.new.sink) in
    ends_carried session_of (replaying seen) c.played.result source sink (map seen c.args.disks.now.items) (map seen c.played.new.disks.items) c.in-Ok.session s.tells (s.left c.args.source.now)
    (c.in-Ok.ensures.read tt) (c.in-Ok.ensures.cause.clean (λ e. cc)) c.in-Ok.ensures.told c.played.ensures.carries
