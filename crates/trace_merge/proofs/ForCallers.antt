-- What callers cite of the lines of all actors, merged by their stamps.
pub use Rattle.trace_merge.proofs.Lists.{each_map}
pub use Rattle.trace_merge.proofs.Places.{list_splits}
