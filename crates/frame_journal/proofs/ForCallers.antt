-- What callers cite of journals of frames.
pub use Rattle.frame_journal.proofs.Apart.{one_list, whole_records}
pub use Rattle.frame_journal.proofs.Entries.{frame_in_payload, new_size, old_size}
pub use Rattle.frame_journal.proofs.Keeping.{cut_holds, cut_image, frames_append, length-frames, new_is_kept, none_is_part, not_torn, note_whole}
pub use Rattle.frame_journal.proofs.Noting.{on_ok}
pub use Rattle.frame_journal.proofs.ReadOn.{records_again}
pub use Rattle.frame_journal.proofs.Sizes.{all_last, size_split, spelled_append, spelled_push, spelled_size_push}
pub use Rattle.frame_journal.proofs.Trimmed.{ends_with_last, lt_shift}
pub use Rattle.frame_journal.proofs.Within.{within_all, within_last}
