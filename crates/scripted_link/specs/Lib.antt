pub mod Script
pub mod Rings
pub mod Moves
pub mod Back
pub mod Outlets
pub mod Inlets
pub mod Laws
