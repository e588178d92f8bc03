mod BothEnds
mod BridgeWhole
mod Walks
pub mod BlockLines
pub mod BlockReads
pub mod Asked
mod GameEnds
mod MoveSame
mod PlayRows
pub mod Nexts
pub mod OfferRead
pub mod PositionGame
pub mod PositionRead
pub mod SummaryCauses
pub mod ServerReads
pub mod Unnamed
pub mod EngineRows
pub mod BridgeRows
pub mod ServerRows
