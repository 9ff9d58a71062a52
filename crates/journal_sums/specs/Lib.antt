pub mod Journals
pub mod Locals
pub mod Readings
pub mod Starts
pub mod Versions
pub mod CoordReadings
