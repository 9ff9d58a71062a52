pub mod ForCallers
mod CoordGentle
mod FoundHomes
mod FoundJournals
mod FoundLines
mod FoundSessions
mod Idle
mod Opening
mod OutcomeWalk
mod PlanSites
