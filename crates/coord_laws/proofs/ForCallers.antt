-- What callers cite of the coordinator by itself.
pub use Rattle.coord_laws.proofs.Begins.{active_from, begins_same, made-begins}
pub use Rattle.coord_laws.proofs.Begun.{begins_some, begun_answer, begun_in, begun_number, below_listed, more_attempts}
pub use Rattle.coord_laws.proofs.Clear.{all_missing, coord_turn, ends_for, named_stays, required_here}
pub use Rattle.coord_laws.proofs.CoordOpened.{is_fine, no_length, nothing_read, read_is, torn_short}
pub use Rattle.coord_laws.proofs.CoordPasts.{coordinators_sum, sums_front}
pub use Rattle.coord_laws.proofs.CoordRead.{decided_any, none_commit, open_rise, order_behind, sum_read, tidy_in_order}
pub use Rattle.coord_laws.proofs.CoordRestarts.{among_inserted, committed_is, going_journals_say_all, going_tells, journal_tells, none_required, past_tidy}
pub use Rattle.coord_laws.proofs.CoordTold.{IsTidy, Once, found_or_not, is_of, left_open, once_open, open_is, rises, unless_ended}
pub use Rattle.coord_laws.proofs.CoordTrims.{IsFine, IsTrimmed, line_fine, past_fine, standing_all, standing_trimmed}
pub use Rattle.coord_laws.proofs.Cycles.{IsFree, commit_behind, commits_whole}
pub use Rattle.coord_laws.proofs.Dues.{IsOwed, all_owed, owed}
pub use Rattle.coord_laws.proofs.Facts.{Committed, Counted, Decides, Forgets, IsEnding, IsOpen, IsPreparing, IsTelling, IsUnmarked, Known, Now, Presumed, Restarts, Same, Says, Starts, Tells, Wrote, WroteAll, is_undecided, kept_standing}
pub use Rattle.coord_laws.proofs.LastVotes.{tickets_name}
pub use Rattle.coord_laws.proofs.Lines.{Kept, Line, Stood, Stopped, Through, coord_lines}
pub use Rattle.coord_laws.proofs.Made.{Begins, CommitsNobody, Counts, DecidesOnRefusal, IsAsked, IsFirst, IsLastVote, IsMade, Writes, is_refusal}
pub use Rattle.coord_laws.proofs.MadeLines.{coord_made, outstanding_site}
pub use Rattle.coord_laws.proofs.OneEach.{commit_node, committed_tid, tids_of}
pub use Rattle.coord_laws.proofs.OpenedPasts.{in_begun, is_silent, opened_attempts, opened_begun, opened_disk, opened_numbered, with_more, with_own}
pub use Rattle.coord_laws.proofs.Past.{any_member, begin_in_order, begin_once, commits_close_none, commits_free, commits_once, decided_awaited, going_on, known_begun, next_turn, participants_declared, past_made, past_sound, recorded_begun, records_name, undecided_unmarked}
pub use Rattle.coord_laws.proofs.RecordLists.{among_commit, among_end, commit_among, commit_named, decided_outcome, end_among, named_more, named_some, nobody_none, outcome_is, those_among}
pub use Rattle.coord_laws.proofs.Rules.{IsCalm, calm_standing, open_undecided}
pub use Rattle.coord_laws.proofs.Sound.{CoordSound, Declared, IsBegun, IsMark, IsYes, begins_go, commit_mark, decided_not_open, end_commit, end_mark, kept_from, kept_not_open, kept_stays, named_stays_some, program_stays, still_open}
pub use Rattle.coord_laws.proofs.Standings.{AppendsCommit, commit_from, last_vote_of, undecided_from}
pub use Rattle.coord_laws.proofs.Taken.{Adds, Cleared, Counting, Unchanged, acked_taken, counting, ticket_counted}
pub use Rattle.coord_laws.proofs.Turns.{Turn, fresh, is_participant, same_outcome, same_program, stays_closed, uncommitted_of}
pub use Rattle.coord_laws.proofs.Unsent.{unbegun_unsent}
pub use Rattle.coord_laws.proofs.UsableCoordinators.{names_declared, those_listed, usable_go_on}
