pub mod Places
pub mod Reading
