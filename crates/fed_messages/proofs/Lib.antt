pub mod ForCallers
mod Again
mod ByKind
mod Found
mod Pieces
mod Whole
