pub mod ForCallers
mod AllRows
mod Looks
mod OneRow
mod Writes
