-- What callers cite of the prepared attempts of a site.
pub use Rattle.prepared_state.proofs.OneMore.{doubt_about-inserted}
