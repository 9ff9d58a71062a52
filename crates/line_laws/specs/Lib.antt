-- which commands are heard, and which lines of them can be printed
pub mod Lines
-- which lines can be printed of sessions that go on
pub mod Resumed
-- which refusals can be printed
pub mod Refusals
-- what is printed of a session
pub mod Printed
