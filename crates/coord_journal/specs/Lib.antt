pub mod Exact
pub mod PayloadSizes
pub mod Spelling
pub mod Frames
