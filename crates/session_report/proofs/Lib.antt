pub mod ForCallers
mod Answered
mod GlobalsTold
mod LastBegun
mod LineForms
mod LineMarks
mod Lists
mod LocalsTold
mod Lookups
mod MarkedDisks
mod Members
mod OrdersTold
mod OutcomesTold
mod Ranking
mod ReadEntries
mod ReportIs
mod Silences
mod ToldOn
