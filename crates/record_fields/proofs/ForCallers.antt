-- What callers cite of the fields of records as bytes.
pub use Rattle.record_fields.proofs.Joined.{length-joined}
pub use Rattle.record_fields.proofs.Sizes.{committed_attempt_size, doubtful_size, few_sites, open_attempt_size, participants_size, rows_size, tickets_size}
