pub mod ForCallers
mod NotFound
mod Stores
