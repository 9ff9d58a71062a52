pub mod Alone
pub mod AtRest
pub mod Bound
pub mod Finished
pub mod Given
pub mod Runs
