pub mod FoundLines
pub mod FoundSessions
pub mod Ranges
pub mod Resuming
