pub mod AllTables
pub mod Runs
