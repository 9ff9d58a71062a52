-- What callers cite of how far each attempt of a site's epoch is.
pub use Rattle.site_book.proofs.Followed.{calls_well, commits_well, decides_well, get-changed_tid, get-put_tid, stays_closed}
pub use Rattle.site_book.proofs.InOrder.{no_live-doubtful, none_running-committed}
pub use Rattle.site_book.proofs.Maps.{entries_gone, entries_put, get-gone, get-put, get_look}
pub use Rattle.site_book.proofs.Ordered.{get-gone_tx, get-put_tx}
pub use Rattle.site_book.proofs.Starts.{starts_well}
pub use Rattle.site_book.proofs.Undone.{forgets-enters, unbegins-begins}
