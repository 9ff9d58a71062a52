pub mod Chains
pub mod Orders
pub mod Search
pub mod Sites
pub mod Merge
pub mod Least
pub mod Tickets
pub mod SortedLists
