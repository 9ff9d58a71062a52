pub mod ForCallers
mod Steps
mod Laws
