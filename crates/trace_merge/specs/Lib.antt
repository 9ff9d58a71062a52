pub mod Traces
pub mod Next
pub mod First
pub mod Laws
