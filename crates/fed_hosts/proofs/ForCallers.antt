-- What callers cite of the hosts of a run in threads.
pub use Rattle.fed_hosts.proofs.CoordAsked.{submit_counts}
pub use Rattle.fed_hosts.proofs.Faults.{clean}
