-- What callers cite of the local database system of a site.
pub use Rattle.local_dbms.proofs.Bounds.{made_small}
pub use Rattle.local_dbms.proofs.Fit.{recalled}
pub use Rattle.local_dbms.proofs.FoundLaws.{are_found}
pub use Rattle.local_dbms.proofs.OpenedOwned.{opened_short}
pub use Rattle.local_dbms.proofs.Owned.{begun_tx}
pub use Rattle.local_dbms.proofs.Small.{IsBegunBy}
