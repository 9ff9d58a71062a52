pub mod Laws
pub mod Pasts
pub mod Records
pub mod WrongPasts
pub mod CoordRestarts
pub mod FoundCoordinators
pub mod Sums
