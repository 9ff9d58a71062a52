-- What callers cite of one order for all sites.
pub use Rattle.federation_laws.proofs.Agreement.{IsSaid}
pub use Rattle.federation_laws.proofs.Asked.{IsOf}
pub use Rattle.federation_laws.proofs.CommitOnce.{commits-once, node-tid, ticket-vote, votes-sent}
pub use Rattle.federation_laws.proofs.CoordHolds.{begun-next, is_begun}
pub use Rattle.federation_laws.proofs.Declared.{declared-in, member-declared, number_some, order-of, put-in, put-kept, undeclared}
pub use Rattle.federation_laws.proofs.Dues.{count_of, epoch_of, left_at, of_site, reads_of, steps_of, ticket_of}
pub use Rattle.federation_laws.proofs.Headlines.{none_rising}
pub use Rattle.federation_laws.proofs.LocalLines.{NotAsked, local-made}
pub use Rattle.federation_laws.proofs.LocalMoves.{Closing, Gone, Granting, LocalMove, Made, Opening, Opens, Rests}
pub use Rattle.federation_laws.proofs.LocalStories.{local-record, local-story, not-asked}
pub use Rattle.federation_laws.proofs.Members.{AsGlobal, AsLocal, IsLocal, IsMember, member-of, record-from}
pub use Rattle.federation_laws.proofs.Memberships.{AtHome, Kind, Roaming, kind-of}
pub use Rattle.federation_laws.proofs.OnceGlobal.{global-once}
pub use Rattle.federation_laws.proofs.OnceLocal.{local-once}
pub use Rattle.federation_laws.proofs.ScenarioFacts.{global-declared, global_program-is, program_fits}
pub use Rattle.federation_laws.proofs.SiteAbout.{IsAbout, abort_about, act_about, begin_about, commit_about, decide_about, drop_about, prepare_about, take_about, work_about}
pub use Rattle.federation_laws.proofs.SiteLocals.{local-by-commit}
pub use Rattle.federation_laws.proofs.SiteMoves.{live-next}
pub use Rattle.federation_laws.proofs.SiteParts.{tells-outcomes}
pub use Rattle.federation_laws.proofs.StoryGlobals.{coord-made, declared-program, fresh-line, live_of_tx-is, story-agrees, story-holds}
pub use Rattle.federation_laws.proofs.Told.{CoordCause, IsLine, IsSiteLine, SiteCause, home-again, line_is, local_home-declared}
