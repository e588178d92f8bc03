pub mod Alike
pub mod Digests
pub mod Groups
pub mod Keying
pub mod Knowing
pub mod Listing
pub mod Readings
pub mod Unreadable
