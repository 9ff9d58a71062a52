pub mod Words
pub mod Spelling
pub mod Fits
pub mod Range
