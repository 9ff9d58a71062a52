pub mod ForCallers
mod Cores
mod Deliveries
mod FreshTowards
mod Grows
mod LastLine
mod Listed
mod Loops
mod Numbered
mod Parts
mod RisingSites
mod Towards
mod World
