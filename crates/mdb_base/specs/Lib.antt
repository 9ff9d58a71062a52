pub mod Names
pub mod Counts
pub mod Few
pub mod Programs
pub mod Rising
pub mod Rows
pub mod Texts
pub mod Words
