pub mod Attempts
pub mod Ends
pub mod Entries
pub mod Agreement
pub mod Pasts
