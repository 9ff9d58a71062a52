pub mod Calls
pub mod Past
