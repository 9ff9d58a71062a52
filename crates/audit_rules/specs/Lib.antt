-- The audit of a printed run, in the order in which it is read.
-- answers told apart, and cycles tested
pub mod Same
-- the first reason for which a printed line isn't the next one
pub mod Faults
-- whether all is at rest, and whether an order is a merge
pub mod Ends
-- the verdict on printed lines
pub mod Agreement
-- entries of a report told apart
pub mod Entries
-- what it means that a printed run agrees
pub mod Agreements
-- where it differs first, and why
pub mod Differences
-- what a yes implies
pub mod Audited
-- rules that look right and aren't
pub mod WrongRules
