pub mod Asks
pub mod Found
pub mod Stands
