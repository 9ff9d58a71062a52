pub mod ForCallers
mod Joined
mod Journals
mod Alike
mod Takes
mod DueLine
mod Candidates
mod Refusals
mod WrongEdges
