pub mod Found
pub mod Pending
pub mod Refusals
pub mod Stands
pub mod Steps
pub mod Store
