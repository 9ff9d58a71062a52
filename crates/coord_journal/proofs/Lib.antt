mod Found
mod Sums
