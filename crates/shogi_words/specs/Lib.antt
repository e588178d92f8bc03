pub mod Options
pub mod Plans
pub mod Requests
pub mod Words
