pub mod ForCallers
mod Followed
mod InOrder
mod Listed
mod Maps
mod NamedMaps
mod Numbered
mod Ordered
mod Starts
mod Undone
