-- What callers cite of disks, frames and their digests.
pub use Rattle.journal_disk.proofs.Called.{at_most, at_most_add, at_most_behind, at_most_more, calls_add, calls_before, calls_behind, no_call, none_at_most, takes_all, takes_behind}
pub use Rattle.journal_disk.proofs.Scan.{frames_push, frames_size_push, right_push}
pub use Rattle.journal_disk.proofs.Whole.{cut_frame, length-digest_of, no_other, one_frame, one_place, one_reading, payload_is, whole_left, written_is_frame}
