-- what becomes of a session that goes on from nine disks
pub mod Resumes
-- how large its journals may be
pub mod Sizes
