pub mod ForCallers
mod Joined
mod Loop
mod Sizes
