-- What callers cite of what an engine promises.
pub use Rattle.engine_contract.proofs.Lets.{act_aborts, act_seals, begun_acts, wrote_acts}
