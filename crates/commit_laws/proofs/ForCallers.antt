-- What callers cite of atomic commitment.
pub use Rattle.commit_laws.proofs.Agree.{Agrees, Prepares}
pub use Rattle.commit_laws.proofs.AgreeCoord.{presumed-or-kept, to_site, told-to}
pub use Rattle.commit_laws.proofs.AgreeSite.{epoch-grows, new-prepared}
pub use Rattle.commit_laws.proofs.Agreed.{agreed, begun_global, coord-sound}
pub use Rattle.commit_laws.proofs.Declared.{by_site, is-declared, members_rise, protocols_rise, rising_from, rising_on, rising_over}
pub use Rattle.commit_laws.proofs.ForgettingProofs.{next-turn}
pub use Rattle.commit_laws.proofs.FoundSessions.{CoordinatorFits, fresh_fits, of_coordinator, of_sites, session_goes_on, session_sound}
pub use Rattle.commit_laws.proofs.Links.{CoordCame, IsNext, Linked, home-again, its-site, linked, linked-here, member_of, not-both, numbered, story_goes_on, story_made}
pub use Rattle.commit_laws.proofs.PreparedLaws.{nowhere}
unfoldable pub use Rattle.commit_laws.proofs.Refuted.{commits_forgotten_at_once_refuted}
pub use Rattle.commit_laws.proofs.SealProofs.{next-line}
pub use Rattle.commit_laws.proofs.Silent.{declared_sends}
pub use Rattle.commit_laws.proofs.SiteEnds.{by-answered, settles-records, settling-ends, settling-tid}
pub use Rattle.commit_laws.proofs.SiteFacts.{IsSealing, NotBegun, Says, Shut, Wrote}
pub use Rattle.commit_laws.proofs.SiteLines.{Kept, Line, site-lines}
pub use Rattle.commit_laws.proofs.SiteShut.{given-up, restored-sealed}
pub use Rattle.commit_laws.proofs.SiteWork.{held-prepared}
pub use Rattle.commit_laws.proofs.Trips.{HasCalls, uncalled}
pub use Rattle.commit_laws.proofs.Walks.{undeclared}
