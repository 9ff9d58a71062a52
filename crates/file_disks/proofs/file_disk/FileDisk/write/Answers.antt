use Rattle.std.proofs.Common.{length, take, ◌∙◌, ap, arith}
use Rattle.journal_disk.specs.Disk.{appended}
use Rattle.file_disks.proofs.Writing.{appended-more, next-end, within-more}
use Rattle.file_disks.proofs.file_disk.FileDisk.write.Goals as goal

pub loop-done-preserved : goal.loop-done-preserved
loop-done-preserved g c =
    let piece = c.args.piece.now in
    let before = g.F.JournalFile.image c.args.self.now.file in
    let done = c.loop-done.done in
    let count = c.in-Ok.count in
    let was = c.loop-done.invariant in
    let put = c.in-Ok.ensures in
    record {
      within = within-more piece done count was.within put.within;
      memory = record { bytes = was.memory.bytes; synced = was.memory.synced; calls = was.memory.calls };
      lost = was.lost;
      count = was.count;
      written = λ tells same.
          let end = next-end piece before _ done _ was.within (omega (arith, c.len-start.ensures, ap length same)) (was.written tells same) in
          put.ok tells end ∙ ap (appended (take count _)) (was.written tells same) ∙ appended-more piece before done count;
      calm = put.cause.clean ∙ was.calm;
    }
