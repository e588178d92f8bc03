pub mod Fronts
pub mod Runs
pub mod Blanks
pub mod Once
pub mod LineCutting
pub mod LinesOnce
pub mod LongLines
pub mod Passing
pub mod Spoken
pub mod Finding
pub mod Leading
pub mod Unfinished
pub mod Joining
pub mod Growing
pub mod FirstLong
pub mod Holding
pub mod WholeRuns
pub mod LineRuns
mod Places
mod Lent
mod Words
mod Unspoken
mod LinesFound
pub mod Opened
