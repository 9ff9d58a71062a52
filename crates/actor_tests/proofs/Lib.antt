mod OfLines
mod OfThree
mod Reopened
