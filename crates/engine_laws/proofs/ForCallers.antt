-- What callers cite of the four concurrency rules.
pub use Rattle.engine_laws.proofs.AgeRuns.{IsByAge, age_sound, aged}
pub use Rattle.engine_laws.proofs.AgeTickets.{age_one_taker}
pub use Rattle.engine_laws.proofs.AloneAt.{IsAlone, access_granted, access_of, acts_alone, begins_alone, commits_alone, found_from, seal_free, takes_alone, ticket_granted}
pub use Rattle.engine_laws.proofs.ByNumber.{StaysClear, below, falls_inserted, is_later}
pub use Rattle.engine_laws.proofs.Conflicts.{read_conflicts, read_none, write_conflicts, written_rows}
pub use Rattle.engine_laws.proofs.Counted.{counted, counter_grows}
pub use Rattle.engine_laws.proofs.Doubted.{are_doubt, doubt_among, doubt_tid, each_by_tid, each_doubt}
pub use Rattle.engine_laws.proofs.DoubtedOnce.{each_held, once_doubts}
pub use Rattle.engine_laws.proofs.Drawers.{AllDrew, IsDrawer, all_drew, drawer, drawer_keeps, each_aborted, same_age}
pub use Rattle.engine_laws.proofs.EachRule.{always_may_restart, always_serial, placed, sound}
pub use Rattle.engine_laws.proofs.Epochs.{history}
pub use Rattle.engine_laws.proofs.Forms.{IsStop, forms}
pub use Rattle.engine_laws.proofs.Keeps.{settling}
pub use Rattle.engine_laws.proofs.LockingReplies.{taken_from}
pub use Rattle.engine_laws.proofs.LockingTickets.{locking_one_taker}
pub use Rattle.engine_laws.proofs.MultiversionRuns.{multiversion_by_age}
pub use Rattle.engine_laws.proofs.Numbers.{counter_lines, drawn_next, draws, ticketed}
pub use Rattle.engine_laws.proofs.Origins.{IsFrom, IsNew, origins, ticket_next}
pub use Rattle.engine_laws.proofs.Relations.{Lists, OfOneAge}
pub use Rattle.engine_laws.proofs.Restored.{has_write_written, rows_apart}
pub use Rattle.engine_laws.proofs.Rows.{after_puts, look_up_with_row, look_up_with_rows, puts_of_written, rising_items, rising_puts, rising_rows, rising_rows_after, rising_with_rows, rows_of_table}
pub use Rattle.engine_laws.proofs.RunLines.{abort_ends, is_live_of, restored_one}
pub use Rattle.engine_laws.proofs.Runs.{Own, at_line, attempts_have, begins, committed_is, each_committed, each_restored, each_run, each_unended, got, may_wait, number_is, own, seals, stays, takes, tid_is, wrote}
pub use Rattle.engine_laws.proofs.SealedTickets.{ticket_is_next}
pub use Rattle.engine_laws.proofs.Sound.{IsApart, IsSound}
pub use Rattle.engine_laws.proofs.StopReplies.{IfSome, OfRuns, SaysOf, access_says, seal_says, ticket_says}
pub use Rattle.engine_laws.proofs.Stops.{puts_clear}
pub use Rattle.engine_laws.proofs.Tables.{after_same, clear_unwritten}
pub use Rattle.engine_laws.proofs.Takers.{HasOneTaker, IsTaker}
pub use Rattle.engine_laws.proofs.Tickets.{published_at, published_grows}
pub use Rattle.engine_laws.proofs.TimestampReplies.{drew_taker, drew_younger, lists_older, lists_older_takers, lists_younger, lists_younger_takers, one_taker, one_writer}
pub use Rattle.engine_laws.proofs.TimestampRuns.{timestamp_by_age}
pub use Rattle.engine_laws.proofs.ValidationRuns.{or_why_none, validation_sound}
pub use Rattle.engine_laws.proofs.ValidationTickets.{owned, unmoved}
