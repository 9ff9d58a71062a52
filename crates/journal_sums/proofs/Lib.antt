pub mod ForCallers
mod CounterLaws
mod VersionLaws
mod EntryLaws
mod Merging
mod DoubtLaws
mod ReadingLaws
mod DifferLaws
mod CoordReadingLaws
