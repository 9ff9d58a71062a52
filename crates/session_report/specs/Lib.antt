pub mod Entries
pub mod Gathering
pub mod InOrder
pub mod Marks
pub mod Outcomes
pub mod Ranks
pub mod Session
pub mod Told
