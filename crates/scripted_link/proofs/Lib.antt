pub mod ForCallers
mod Queues
mod Made
mod Scripts
mod Waiting
