-- What callers cite of the commands that end a session over a world.
pub use Rattle.closing.proofs.Cores.{on_ok}
pub use Rattle.closing.proofs.Deliveries.{finished_grows}
pub use Rattle.closing.proofs.FreshTowards.{fresh_can_close}
pub use Rattle.closing.proofs.Listed.{doubts_listed, live_listed}
pub use Rattle.closing.proofs.Loops.{each_extends, each_more, next_begins, room_for}
pub use Rattle.closing.proofs.Parts.{fifth, fifth_in, fifth_on}
pub use Rattle.closing.proofs.Towards.{Extends, breaks_since, calm_since, extends_here, extends_one, extends_twice, fails_at, fails_within, on_failure, on_success, room_one, short_here}
pub use Rattle.closing.proofs.World.{has_lines, nine}
