pub mod AlwaysAsks
mod ConfirmedOnce
pub mod Counting
pub mod Courses
mod EndStated
mod Ends
mod Existing
mod Fitting
mod Instances
mod LogGames
pub mod Onward
mod Passwords
pub mod PositionFits
pub mod RowOnce
mod Silent
mod SentRight
mod Testing
pub mod Tied
mod WholeLog
