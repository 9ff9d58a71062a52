pub mod Faults
pub mod Reading
pub mod Finding
pub mod FoundLines
