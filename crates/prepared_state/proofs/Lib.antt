pub mod ForCallers
mod ByTid
mod OneMore
