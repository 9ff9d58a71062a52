pub mod Laws
pub mod Noted
pub mod OldVersions
pub mod Stands
pub mod Unended
pub mod Versions
