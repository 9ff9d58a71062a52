pub mod Store
pub mod Found
