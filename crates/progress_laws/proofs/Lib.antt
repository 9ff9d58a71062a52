pub mod ForCallers
mod Adds
mod BegunNone
mod Doubts
mod Finishes
mod GivenUp
mod Refuted
mod SettledCommits
