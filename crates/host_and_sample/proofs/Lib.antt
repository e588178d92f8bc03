mod Answering
pub mod HostGame
mod HostLines
mod HostOnce
mod HostRows
mod HostSteps
mod HostTurn
mod HostWhole
pub mod OneStart
mod SampleOnce
mod SampleSteps
pub mod WholeLines
