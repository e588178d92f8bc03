pub mod LoginWords
pub mod Planning
pub mod Replacing
pub mod Porting
pub mod Addresses
