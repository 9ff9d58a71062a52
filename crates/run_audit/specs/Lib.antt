-- what an audit answers, and its causes
pub mod Audits
pub mod Causes
-- one printed line
pub mod Candidates
pub mod Turns
-- the end of the lines
pub mod Resting
