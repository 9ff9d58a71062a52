pub mod ForCallers
mod Numbers
