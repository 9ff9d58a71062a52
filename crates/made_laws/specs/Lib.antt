-- programs that move an amount, and what tables are worth
pub mod Moves
-- how many commits are kept
pub mod Counted
-- journals without a Checkpoint
pub mod Unchecked
-- the line that is printed of a made scenario
pub mod Summaries
-- moves and counts that look right and aren't
pub mod WrongRules
