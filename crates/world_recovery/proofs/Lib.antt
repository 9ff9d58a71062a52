mod BackSteps
mod FoundBegun
mod FoundDisks
mod FoundJournals
mod FoundLines
mod GoingBack
mod ReopenedWorlds
mod Reopens
