pub mod Causes
pub mod Counts
pub mod Digests
pub mod Likenesses
pub mod Listed
pub mod Placed
pub mod Readings
pub mod Whole
