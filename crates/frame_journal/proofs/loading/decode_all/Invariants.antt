use Rattle.std.proofs.Common.{◌≡◌, length, take, drop, map}
use Rattle.std.specs.List.{AllByRecursion}
use Rattle.journal_disk.specs.Frames.{frames_size}
use Rattle.frame_journal.specs.Records.{entries_at, entries_of, entry_frame, with_front}
use Rattle.frame_journal.proofs.loading.decode_all.Given as goal

abbrev pub invariant-loop-i : goal.invariant-loop-i
invariant-loop-i g l =
    let format = g.F.Format in
    let so_far = entries_of l.versions.items l.records.items in
    record {
      read : with_front so_far (entries_at format.reading l.place (drop l.i l.frames)) ≡ entries_at format.reading 0 l.frames;
      side_by_side : length l.versions.items ≡ length l.records.items;
      spelled : map (entry_frame format.spelling) so_far ≡ take l.i l.frames;
      are_records : AllByRecursion format.is_record l.records.items;
      size : l.place ≡ frames_size (take l.i l.frames);
    }
