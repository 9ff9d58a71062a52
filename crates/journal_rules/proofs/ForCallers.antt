-- What callers cite of the journals' bytes and the definitions' disk.
pub use Rattle.journal_rules.proofs.CanFail.{forced_or_not, starting_calls, stopped_calls}
pub use Rattle.journal_rules.proofs.Journals.{all_reverse, all_standing, all_whole, before_last_push, bytes_of_append, entries_follow, torn_follows, whole_follows, written_frames, written_values}
pub use Rattle.journal_rules.proofs.Keeps.{call_stands, from_empty, journal_is, journal_stands, sizes_agree}
pub use Rattle.journal_rules.proofs.Respelling.{front_held, front_within, kept_respelled, new_front, new_length, old_size, respelled_append, respelled_appends, respelled_cuts, respelled_frames, respelled_is, respelled_journal, respelled_seen, respelled_stop, respelled_sync, respelled_syncs, respelled_trim, size_append, size_respelled, size_stands, values_front}
pub use Rattle.journal_rules.proofs.Torn.{call_torn, empty_torn, part_none, untorn_rest}
