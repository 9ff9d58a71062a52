pub mod ForCallers
mod Least
mod Lists
mod Merging
mod Steps
mod Places
mod OneTrace
