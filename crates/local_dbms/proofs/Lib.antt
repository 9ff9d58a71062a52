pub mod ForCallers
mod Asked
mod Asking
mod Bounds
mod Comes
mod Fit
mod FoundLaws
mod Lines
mod OpenedOwned
mod Owned
mod Quiet
mod Small
