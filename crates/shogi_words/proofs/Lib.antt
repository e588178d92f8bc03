pub mod CommandNames
pub mod CommandWords
