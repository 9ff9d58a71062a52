-- What callers cite of sessions that go on from disks that were found.
pub use Rattle.found_laws.proofs.CoordGentle.{AreDecisions, IsDecide, NobodyIsOpen, closed_standing, decisions_alone, each_here, still_nobody}
pub use Rattle.found_laws.proofs.FoundHomes.{IsFound, each_homed, first_rows, found_past, homeless, no_past, parts_are, same_members}
pub use Rattle.found_laws.proofs.FoundJournals.{same_home}
pub use Rattle.found_laws.proofs.FoundSessions.{IsResumedPast, all_sorted, begins, fits, nobody_first, nobody_on, opened, plan_sites, quiet, resumed_from, resumes}
pub use Rattle.found_laws.proofs.Idle.{IsIdle, begins_nothing, idle, local_never}
pub use Rattle.found_laws.proofs.Opening.{coord_records, session_begins, site_unsettled}
pub use Rattle.found_laws.proofs.OutcomeWalk.{outcomes_on}
pub use Rattle.found_laws.proofs.PlanSites.{IsInRange, members_range, protocols_rise, rise_all, sites_of_homes}
