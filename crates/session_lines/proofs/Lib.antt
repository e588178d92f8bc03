pub mod LinesRead
pub mod MoveRead
pub mod OneLine
pub mod OneStatement
pub mod Spaces
