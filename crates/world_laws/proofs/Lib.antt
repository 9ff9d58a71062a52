pub mod ForCallers
mod Members
mod Sent
mod SiteSays
