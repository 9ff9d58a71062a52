-- What callers cite of scenarios that a number makes.
pub use Rattle.scenario_maker.proofs.Sound.{declared, drawn_below, made_is_scenario}
