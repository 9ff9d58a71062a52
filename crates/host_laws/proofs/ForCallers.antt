-- What callers cite of the histories of hosts.
pub use Rattle.host_laws.proofs.CarriedHosts.{by_list, host_at, site_low}
pub use Rattle.host_laws.proofs.CarriedTrace.{each_entry}
pub use Rattle.host_laws.proofs.Sides.{few_sent, of_other, of_own}
pub use Rattle.host_laws.proofs.SiteRanges.{about_in_range}
