pub mod ForCallers
mod BytesThere
mod FoundLines
mod InRange
mod Puts
mod Readings
mod Finds
mod UsableFinds
mod OneAnswer
