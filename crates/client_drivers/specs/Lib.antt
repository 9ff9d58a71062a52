pub mod Calls
pub mod Table
pub mod Driving
pub mod Tapes
pub mod SiteCalls
pub mod CoordCalls
