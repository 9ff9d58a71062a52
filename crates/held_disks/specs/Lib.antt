pub mod Holding
pub mod Stops
