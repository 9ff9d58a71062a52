pub mod ForCallers
mod Sizes
mod Entries
mod ReadOn
mod Within
mod Keeping
mod Apart
mod Noting
mod Popped
mod Fronts
mod Trimmed
