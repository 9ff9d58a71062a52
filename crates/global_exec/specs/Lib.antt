pub mod Agreement
pub mod Counted
pub mod Due
pub mod Entries
pub mod Firsts
pub mod Live
pub mod Pasts
pub mod Sets
