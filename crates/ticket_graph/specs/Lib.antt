pub mod Entries
pub mod Steps
pub mod Trail
pub mod Reach
pub mod Graph
pub mod Entered
