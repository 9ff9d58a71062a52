-- What callers cite of the table of a site.
pub use Rattle.site_tables.proofs.Looks.{get-lookup}
pub use Rattle.site_tables.proofs.OneRow.{get-put, get-with_row, same_versions}
pub use Rattle.site_tables.proofs.Writes.{written-either}
