pub mod ForCallers
mod Kept
mod Outputs
mod Recalled
mod Sized
mod Stops
mod Stores
