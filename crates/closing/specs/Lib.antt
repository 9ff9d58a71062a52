pub mod Alone
pub mod Between
pub mod FreshTowards
pub mod Steps
pub mod Towards
