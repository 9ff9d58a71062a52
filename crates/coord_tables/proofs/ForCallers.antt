-- What callers cite of what a coordinator that is up keeps of its attempts.
pub use Rattle.coord_tables.proofs.Aborts.{abort_line, abort_serving, aborted, aborts_are, is_recorded, listed, table_forgets}
pub use Rattle.coord_tables.proofs.Acking.{ack_begins, ack_follows, ack_goes, ack_heard, ack_ignored, ack_line, ack_prints, ack_silent, ack_stays, counted_presumed, counted_undecided, table_end}
pub use Rattle.coord_tables.proofs.Again.{again_decided, again_gone, again_sends, decided_some, missing_is, missing_rise, stands_decided, stands_gone, stands_undecided, tells_calm}
pub use Rattle.coord_tables.proofs.Beginnings.{HasBegun, begun_line, begun_live, begun_serving, go_begins, go_committed, go_running, none_known, none_live, noted_next}
pub use Rattle.coord_tables.proofs.Calm.{IsCalmAnswer, calm_answer, quiet_calm, uncounted_calm}
pub use Rattle.coord_tables.proofs.Committing.{HasDecided, commit_forgets, commit_serving, commits_are, committed, cycle_aborting, lacks_decision, last_commits, last_line, last_open, one_each}
pub use Rattle.coord_tables.proofs.Dids.{counts_are, did_dies, did_event, did_ignored, did_late, did_sending, did_unknown, did_waits, news_are}
pub use Rattle.coord_tables.proofs.Empty.{nothing_served}
pub use Rattle.coord_tables.proofs.FoundAttempts.{attempts_found, named_recorded}
pub use Rattle.coord_tables.proofs.Graphs.{not_kept}
pub use Rattle.coord_tables.proofs.Held.{all_passed, without_takes}
pub use Rattle.coord_tables.proofs.Initiations.{participants_rise}
pub use Rattle.coord_tables.proofs.Inquiries.{asked_known, asked_presumed, asked_undecided, fate_calm, fate_committed, fate_ended, fate_running, inquiry_calm, inquiry_is, running_is, said_told}
pub use Rattle.coord_tables.proofs.Lates.{late_aborting, late_idle}
pub use Rattle.coord_tables.proofs.Lines.{IsAsBefore, IsCalm, elsewhere, known_stays, live_stays, sent_as}
pub use Rattle.coord_tables.proofs.Listings.{rising_listed, sorted_rising}
pub use Rattle.coord_tables.proofs.OneActive.{nothing_alone, opened_alone}
pub use Rattle.coord_tables.proofs.Phases.{open_begun, others_are, sites_of_found, stage_there}
pub use Rattle.coord_tables.proofs.Sent.{initiates_is, prints_calm, says_calm, sent_is, sent_line, sent_tables}
pub use Rattle.coord_tables.proofs.Serving.{attempts_same, range_same, serving_calm, sound_more, stages_stay}
pub use Rattle.coord_tables.proofs.Visits.{HasVisited, no_prepares, no_takes}
pub use Rattle.coord_tables.proofs.Voting.{awaits_are, found_rise, last_parts, no_aborting, vote_ignored, vote_more, vote_open, vote_serving}
pub use Rattle.coord_tables.proofs.Waiting.{held_still, nothing_kept}
pub use Rattle.coord_tables.proofs.Waits.{wait_serving}
