-- What callers cite of worlds and their seats.
pub use Rattle.fed_world.proofs.DeclaredPlaces.{at_its_place, home_at_place, no_home_placeless}
pub use Rattle.fed_world.proofs.DeclaredSites.{declared_ranged, declared_rise, has_line, line_home, members_ranged, site_home}
pub use Rattle.fed_world.proofs.Faults.{failed_later, told_later}
pub use Rattle.fed_world.proofs.FewCommands.{are_empty, has_room, one_more}
pub use Rattle.fed_world.proofs.FoundSites.{its_journal}
pub use Rattle.fed_world.proofs.FreshWorlds.{some_session}
pub use Rattle.fed_world.proofs.Recalled.{recalls}
pub use Rattle.fed_world.proofs.RightLines.{right_fresh}
pub use Rattle.fed_world.proofs.SeatLines.{one_place}
pub use Rattle.fed_world.proofs.SeatsByPlace.{has_item}
pub use Rattle.fed_world.proofs.SeenDisks.{by_place, mapped_at}
pub use Rattle.fed_world.proofs.SessionParts.{declared_table}
pub use Rattle.fed_world.proofs.SetUpSteps.{disk_within}
