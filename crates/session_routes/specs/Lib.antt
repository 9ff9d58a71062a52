pub mod Numbers
pub mod Posting
pub mod Routes
pub mod Rows
