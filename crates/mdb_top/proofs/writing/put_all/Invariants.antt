use Rattle.std.proofs.Common.{◌-◌, length}
use Rattle.mdb_top.specs.Progress.{HasPut}
use Rattle.mdb_top.proofs.writing.put_all.Given as goal

abbrev pub invariant-loop-place : goal.invariant-loop-place
invariant-loop-place g l =
    let sink = g.K.Sink in
    HasPut sink.tells (sink.written l.fn.sink) (sink.written l.sink) (sink.faults l.fn.sink) (sink.faults l.sink) l.bytes l.place

abbrev pub decreases-loop-place : goal.decreases-loop-place
decreases-loop-place g l = length l.bytes - l.place
