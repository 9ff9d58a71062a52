-- What callers cite of a site by itself, over all its stops and restarts.
pub use Rattle.site_history.proofs.About.{engine_lines-next, epoch_start-next, run_of-next}
pub use Rattle.site_history.proofs.Agreement.{IsKept, IsLiveHere, free_here, live_is}
pub use Rattle.site_history.proofs.AsSealed.{inserted_in}
pub use Rattle.site_history.proofs.Backed.{appended, once_front}
pub use Rattle.site_history.proofs.Backing.{sealed_above}
pub use Rattle.site_history.proofs.Behind.{carried_same, doubt_behind, unsorted}
pub use Rattle.site_history.proofs.DeclaredHomes.{home_rises}
pub use Rattle.site_history.proofs.Doubtful.{are_doubts, doubts_alike, doubts_are, doubts_rise}
pub use Rattle.site_history.proofs.EngineRows.{TabledPast, tabled_first, tabled_on, tabled_opened}
pub use Rattle.site_history.proofs.Founded.{IsFounded, all_within, foundation, founded, whole-all}
pub use Rattle.site_history.proofs.Fronts.{whole_of_fronts}
pub use Rattle.site_history.proofs.Histories.{IsSortedRecord, no_local_doubt}
pub use Rattle.site_history.proofs.HistoryMoves.{synced_append}
pub use Rattle.site_history.proofs.InOrder.{AllFit, DoubtsFit, first_fit}
pub use Rattle.site_history.proofs.InOrderPasts.{OrdersPast, order_behind, orders_on, orders_past}
pub use Rattle.site_history.proofs.Installs.{IsDoubtful, due_distinct, due_installed, install_before, installed_due, installs_distinct}
pub use Rattle.site_history.proofs.Journals.{Begins, IsSummed, IsTrimmed, standing_trimmed, sums_behind, sums_front, whole_sum}
pub use Rattle.site_history.proofs.Led.{pasts_led}
pub use Rattle.site_history.proofs.LineAnswers.{act_answer-is, act_begins-none, acts_about, refusal_answer-is, refused_about}
pub use Rattle.site_history.proofs.LiveOnes.{found_in, none_live}
pub use Rattle.site_history.proofs.LocalLines.{act_plain, refusal_plain}
pub use Rattle.site_history.proofs.MessageLines.{ended_records, not_over}
pub use Rattle.site_history.proofs.MovedPasts.{KeptByMoves, moves_keep}
pub use Rattle.site_history.proofs.Moves.{IsCalm, JustSyncs, Moves, begins_local, begins_work, checks_sum, commits_local, goes_on, move_answered, prepares_run, rests, settles_held}
pub use Rattle.site_history.proofs.OpenedPasts.{named_writes, opened_is}
pub use Rattle.site_history.proofs.OpenedSites.{IsReopened, disk_is, found_says_all, front, records_are, reopened, torn_short}
pub use Rattle.site_history.proofs.OpenedSums.{all_due_same, all_in_order, all_read, all_says, all_sums, counted_more, first_due, first_order, first_says, read_more}
pub use Rattle.site_history.proofs.ReadSums.{WritesNothing, below, beside, carried_installs, in_parts, says_sum}
pub use Rattle.site_history.proofs.Records.{bound_by, doubt_in, doubt_prepared, due_install, locals_undoubted, once_behind, record_of}
pub use Rattle.site_history.proofs.RightLines.{good_answered, is_back, right_of_kept}
pub use Rattle.site_history.proofs.SameLists.{InstallsFall, due_fall, installs_fall}
pub use Rattle.site_history.proofs.SameSays.{SameDue, SameSays, all_due, all_say, same_sum, says_more}
pub use Rattle.site_history.proofs.SerialPasts.{pasts_serial}
pub use Rattle.site_history.proofs.SitesOfStories.{of_events, sites_serial, stories_right}
pub use Rattle.site_history.proofs.SortedPasts.{sorted_past}
pub use Rattle.site_history.proofs.SortedStories.{local_is, sorted_story}
pub use Rattle.site_history.proofs.Starts.{EachAppend, HasRisingWrites, append_take, each_after, restored_doubt, restored_held}
pub use Rattle.site_history.proofs.SummedPasts.{SummedPast, journals_say_all, pasts_summed, says_all_on, summed_on}
pub use Rattle.site_history.proofs.TicketLines.{published_lines}
pub use Rattle.site_history.proofs.UsableSites.{locals_from, sites_go_on}
pub use Rattle.site_history.proofs.WellKept.{IsWellKept, StartsWell, good_starts_on, well_first, well_on, well_past}
pub use Rattle.site_history.proofs.Whole.{goes_on_behind, goes_on_in_order}
