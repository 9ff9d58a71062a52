pub mod Book
pub mod Calls
pub mod Follows
pub mod Laws
pub mod Listing
pub mod Named
pub mod Noted
pub mod Numbered
