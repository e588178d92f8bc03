pub mod Converting
pub mod Cutting
pub mod LineReading
pub mod Recording
pub mod Telling
