pub mod Hashes
pub mod PieceSteps
pub mod Places
