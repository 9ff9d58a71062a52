pub mod ForCallers
mod Asked
mod Asking
mod Fit
mod Lines
mod Owned
