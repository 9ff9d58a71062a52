use Rattle.std.proofs.Common.{◌≡◌, vec_len, length, map}
use Rattle.std.specs.Vec.{vec_capacity}
use Rattle.journal_disk.specs.Frames.{AreRight}
use Rattle.frame_journal.specs.Records.{entries_of, entry_frame, records_within, spelled_size}
use Rattle.frame_journal.proofs.stopping.keep_within.Given as goal

abbrev pub invariant-loop-whole : goal.invariant-loop-whole
invariant-loop-whole g l =
    let shape = entry_frame g.F.Format.spelling in
    let left = entries_of l.versions.items l.records.items in
    record {
      same : records_within shape l.left left ≡ records_within shape l.left (entries_of l.fn.versions.items l.fn.records.items);
      side_by_side : length l.versions.items ≡ length l.records.items;
      size : l.whole ≡ spelled_size shape left;
      right : AreRight (map shape left);
      room : vec_capacity l.records ≡ vec_capacity l.fn.records;
      versions : vec_capacity l.versions ≡ vec_capacity l.fn.versions;
    }

abbrev pub decreases-loop-whole : goal.decreases-loop-whole
decreases-loop-whole g l = vec_len l.records
