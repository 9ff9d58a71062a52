-- the nine disks, and what a failed call leaves on them
pub mod Disks
pub mod Breaks
-- a session, and what becomes of its commands
pub mod Sessions
pub mod Plays
pub mod Outcomes
-- the output of each command of the program
pub mod Replays
pub mod Again
pub mod Runs
pub mod Ends
pub mod Makes
-- what the line of a summary says
pub mod Summing
