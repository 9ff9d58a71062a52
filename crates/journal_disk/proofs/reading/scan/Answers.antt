use Rattle.std.proofs.Common.{rules}
use Rattle.journal_disk.specs.Frames.{IsRight}
use Rattle.journal_disk.specs.Spans.{frame_at}
use Rattle.journal_disk.proofs.Scan.{scans_more}
use Rattle.journal_disk.proofs.reading.scan.Goals as goal

pub loop-span-preserved : goal.loop-span-preserved
loop-span-preserved c =
    let e = c.in-Some.ensures in
    let right : IsRight (frame_at c.args.bytes.now c.in-Some.span) = search rules in
    rw c.in_ok-push.ensures.items (scans_more c.args.bytes.now c.loop-span.spans.items c.loop-span.whole c.in-Some.span c.loop-span.invariant e.within e.is_frame e.parts right)
