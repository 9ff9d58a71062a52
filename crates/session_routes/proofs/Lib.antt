pub mod ForCallers
mod FirstRows
mod Homes
mod Places
mod Posts
mod Put
