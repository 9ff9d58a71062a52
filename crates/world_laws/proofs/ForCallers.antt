-- What callers cite of the messages of every story.
pub use Rattle.world_laws.proofs.Members.{ComesFrom, NamesAmong, SendsAmong, line_among, member_among, sites_in}
pub use Rattle.world_laws.proofs.Sent.{coordinator_sends, homed, homeless, messages_declared, messages_of_begun}
pub use Rattle.world_laws.proofs.SiteSays.{own_events_silent, sites_few}
