pub mod ForCallers
mod Again
mod Ending
mod Holding
mod HostsHeard
mod MakeLemmas
mod OutputLemmas
mod PlayLemmas
mod Rights
mod RunLemmas
mod Stores
mod Totals
mod Unrefused
mod UsedDisks
