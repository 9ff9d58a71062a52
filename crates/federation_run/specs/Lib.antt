pub mod Scripts
pub mod Plans
pub mod Wired
pub mod Seats
pub mod Lefts
pub mod Sorting
pub mod Settling
pub mod Running
