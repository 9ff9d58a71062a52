use Rattle.std.proofs.Common.{is_some, map, sym, ◌∙◌, ap}
use Rattle.session_outputs.specs.Disks.{first_used, sizes_of}
use Rattle.session_outputs.specs.Makes.{making}
use Rattle.mdb_top.specs.Streams.{Stream, stream}
use Rattle.mdb_top.proofs.TopLemmas.{carries_put, put_status}
use Rattle.mdb_top.proofs.top_call.made.Goals as goal

pub returns-in-None-clause-carries : goal.returns-in-None-clause-carries
returns-in-None-clause-carries g c =
    let k = g.K.Sink in
    let seen = g.D.Disk.seen in
    let sink : Stream = stream k.tells (k.written c.args.sink.now) (k.written c.put_made.new.sink) (k.faults c.args.sink.now) (k.faults c.put_made.new.sink) in
    let unused = ap is_some (ap (λ disks. first_used (sizes_of (map seen disks))) (sym c.as_slice.ensures.value) ∙ (sym c.first_used.ensures ∙ c.in-None.is)) in
    carries_put (making seen) sink (map seen c.args.disks.now.items) (map seen c.made_output_of-made.new.disks.items) c.args.making c.put_made.result c.made_output_of-made.result unused (λ output whole. whole.calm)
    c.made_output_of-made.ensures.output c.put_made.ensures

pub returns-in-None-clause-status : goal.returns-in-None-clause-status
returns-in-None-clause-status g c =
    let k = g.K.Sink in
    let sink : Stream = stream k.tells (k.written c.args.sink.now) (k.written c.put_made.new.sink) (k.faults c.args.sink.now) (k.faults c.put_made.new.sink) in
    put_status c.put_made.result sink c.made_output_of-made.result c.put_made.ensures
