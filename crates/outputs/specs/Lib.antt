-- what is made of an input before anything is put
pub mod Texts
pub mod Outputs
-- which records the nine disks hold, and what a failed call leaves on them
pub mod Kept
pub mod Stops
