-- a session at rest, given again
pub mod Replayed
-- and what it prints
pub mod Printed
-- ways to close it that look right and aren't
pub mod WrongRules
