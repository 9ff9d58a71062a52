pub mod FileDisk
pub mod Files
pub mod MemFile
pub mod MemStore
pub mod Stores
