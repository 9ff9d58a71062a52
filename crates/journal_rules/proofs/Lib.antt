pub mod ForCallers
mod CanFail
mod Keeps
mod Journals
mod Making
mod Respelling
mod Torn
