-- What callers cite of who hears of a transaction or a site.
pub use Rattle.session_routes.proofs.Places.{snoc_before, snoc_get}
pub use Rattle.session_routes.proofs.Posts.{get_other, get_put, length_set}
