pub mod ByAge
pub mod Holders
pub mod Lists
pub mod Places
pub mod Rule
pub mod Stands
