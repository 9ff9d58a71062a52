pub mod ForCallers
mod Refuted
mod ReadAs
mod Restarts
