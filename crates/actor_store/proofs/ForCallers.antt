-- What callers cite of the journal of an actor and the calls on its disk.
pub use Rattle.actor_store.proofs.CalledLaws.{armed_in_force, called_one, called_stopped, same_calls, stop_behind}
pub use Rattle.actor_store.proofs.EndsLaws.{ends_early, ends_more, passes_none, stopped_disk-all, used_none}
pub use Rattle.actor_store.proofs.FoundLaws.{found_in, left_in, read_in, whole_respelled}
pub use Rattle.actor_store.proofs.FromLaws.{all_written, from_done, from_failed, from_kept, from_later, from_none, from_stop, from_stopped, from_trip, writes_more}
pub use Rattle.actor_store.proofs.NewLaws.{new_keeps}
pub use Rattle.actor_store.proofs.StoreLaws.{settled, sizes, taken_bytes, torn_bytes}
pub use Rattle.actor_store.proofs.TripLaws.{trip_to-armed, trip_to-rules}
