pub mod ForCallers
mod Called
mod Counted
mod Parts
mod Room
mod Scan
mod Whole
