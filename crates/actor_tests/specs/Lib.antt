pub mod OfLines
pub mod OfThree
