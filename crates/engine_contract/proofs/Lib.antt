pub mod ForCallers
mod Follows
mod Lets
