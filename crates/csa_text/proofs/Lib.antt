pub mod SameMoment
pub mod Texts
pub mod PairsRead
pub mod CellTexts
pub mod TimesRead
mod FrontTimes
pub mod Rows
pub mod Sayings
pub mod Decided
pub mod Codings
pub mod Moments
pub mod MoveBytes
