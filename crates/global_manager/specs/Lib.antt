pub mod Asks
pub mod Stands
