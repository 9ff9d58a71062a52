pub mod Bounds
pub mod Closings
pub mod Coordinators
pub mod Disks
pub mod Orders
pub mod Policies
pub mod Rows
pub mod Sites
