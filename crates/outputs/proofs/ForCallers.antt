-- What callers cite of what the outputs of all commands have in common.
pub use Rattle.outputs.proofs.Kept.{actor_breaks, stands_keeps}
pub use Rattle.outputs.proofs.Outputs.{whole_weaker}
pub use Rattle.outputs.proofs.Recalled.{site_held}
pub use Rattle.outputs.proofs.Sized.{AreSized, all_sized, numbered, one_at, there_at}
pub use Rattle.outputs.proofs.Stops.{coord_stops, site_stops}
pub use Rattle.outputs.proofs.Stores.{nothing_behind}
