pub mod Causes
pub mod Disk
pub mod Frames
pub mod MemDisk
pub mod Room
pub mod Spans
