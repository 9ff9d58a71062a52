-- What callers cite of what the definitions mean, and of worked sessions: how they are spelled, and the one name that opens every rule.
pub use Rattle.fed_rules.proofs.Beginnings.{begins_nothing}
pub use Rattle.fed_rules.proofs.CoordPasts.{BeginsNothing, IsNoGo, counts_open}
pub use Rattle.fed_rules.proofs.CoordRecords.{none_committed, some_committed}
pub use Rattle.fed_rules.proofs.Declared.{home-again, its-site, local-declared}
pub use Rattle.fed_rules.proofs.Disks.{IsCut, IsQuiet, Keeps, appended, cut_old, cut_stays, firm_quiet, front_of_front, left_by_line, left_by_stop, plain_records, quiet_plain}
pub use Rattle.fed_rules.proofs.Doubts.{AreSorted, carried_none, in_sorted, sorted_by_tid}
pub use Rattle.fed_rules.proofs.Dues.{due_number}
pub use Rattle.fed_rules.proofs.Durable.{bytes_whole, firm_stop, none_lost, safe_or_loose, sound_call, sound_calls, whole_all, whole_front}
pub use Rattle.fed_rules.proofs.EachAttempt.{each_distinct, each_in, in_each, in_with, with_distinct, with_in}
pub use Rattle.fed_rules.proofs.Lines.{line_is}
unfoldable pub use Rattle.fed_rules.proofs.Opened.{opened}
pub use Rattle.fed_rules.proofs.OpenedDisks.{calls_split, expanded, expanded_is, opened_journal, opened_length, opened_lost, opened_records, opened_synced, opened_trimmed, torn_lost}
pub use Rattle.fed_rules.proofs.OppositeTickets.{attempts, closing, cycle_is_one, edge_1, edge_2, printed, report, scenario}
pub use Rattle.fed_rules.proofs.PastLengths.{past_short}
pub use Rattle.fed_rules.proofs.Pasts.{pasts-made}
pub use Rattle.fed_rules.proofs.RisingLists.{Rises, in_rising, rises_one, rising_in, rising_one, rising_rises}
pub use Rattle.fed_rules.proofs.RunLines.{counter_begun, run_at_other, run_at_own, sealed_then}
pub use Rattle.fed_rules.proofs.Scenarios.{MembersRise, undecided_open}
pub use Rattle.fed_rules.proofs.Sending.{IsSending, all_sending, some_sending}
pub use Rattle.fed_rules.proofs.Sends.{OverSends, none_to}
pub use Rattle.fed_rules.proofs.SendsRise.{decisions_rise, sends_rise, sites_rise}
pub use Rattle.fed_rules.proofs.SitePasts.{BeginsNone, attempts_grow, live_is_of}
pub use Rattle.fed_rules.proofs.SiteRecords.{bytes-more, epoch_same, standing_all}
pub use Rattle.fed_rules.proofs.SiteRequests.{asks}
pub use Rattle.fed_rules.proofs.Spelled.{add, again, ask, at, back, before, begin, check, commit, conservatively, edge, entry, fate, get, give, global, go, halt, key, late, line, local, place, read_by, scenario_of, set, site, step, step_at, table, take, ticket, tid, trip, voted}
