pub mod ForCallers
mod Parts
mod DueLines
mod LastBytes
mod Verdicts
