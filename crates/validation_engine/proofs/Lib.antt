mod Entries
mod Past
mod Spoilers
mod Bad
mod Indexed
mod Lines
mod Restored
