pub mod ReadAs
pub mod WrongReading
pub mod Restarts
