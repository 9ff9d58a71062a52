pub mod ForCallers
mod StoreLaws
mod CutLaws
mod EndsLaws
mod FoundLaws
mod TrimLaws
mod NewLaws
mod CalledLaws
mod TripLaws
mod BehindLaws
mod FromLaws
