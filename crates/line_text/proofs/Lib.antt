pub mod ForCallers
mod Begun
mod Written
