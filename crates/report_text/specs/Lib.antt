-- the report
pub mod Spelling
-- the summary of a scenario that was made
pub mod Summaries
