pub mod FoundBegun
pub mod Reopening
