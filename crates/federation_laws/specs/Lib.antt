pub mod Accesses
pub mod Conservative
pub mod Edges
pub mod LaterRuns
pub mod OneOrder
pub mod Parts
pub mod SiteOrders
pub mod WrongRules
