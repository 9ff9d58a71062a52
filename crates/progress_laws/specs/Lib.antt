-- what the end of a session adds
pub mod Added
-- what progress is possible
pub mod Progress
-- what rest means for what committed
pub mod Settled
-- ways to end it that look right and aren't
pub mod WrongRules
