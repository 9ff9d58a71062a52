-- what is read of a printed line, and whether it is one of the report
pub mod Lines
-- a scenario, the line `printed`, and a printed run
pub mod Texts
-- a text cut at that line
pub mod Cuts
-- the verdict by the bytes that are due
pub mod Dues
