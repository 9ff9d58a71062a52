pub mod ForCallers
mod Counts
mod Sound
