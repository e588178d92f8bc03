pub mod Asking
pub mod Explained
pub mod Stops
