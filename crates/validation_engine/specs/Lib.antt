pub mod Index
pub mod Rule
pub mod Stands
