use Rattle.std.proofs.Common.{◌<◌, length, ap, arith}
use Rattle.std.proofs.lemmas.List.{length-map}
use Rattle.journal_disk.specs.Spans.{frame_at}
use Rattle.journal_disk.proofs.Scan.{frame_got, frame_payload}
use Rattle.journal_disk.proofs.reading.Frames.at.Goals as goal

pub returns-clause-size : goal.returns-clause-size
returns-clause-size c =
    let f = c.self.inside in
    let below : c.args.place < length f.spans.items = omega (arith, length-map f.spans.items (frame_at f.bytes.items), ap length c.self.view_is, c.requires) in
    rw c.deref.ensures.value (frame_payload f.bytes.items c.index-span.result.now (frame_got f.bytes.items f.spans.items c.args.place c.index-span.result.now c.self.invariant.right.are_frames below c.index-span.ensures))
