pub mod LineTexts
pub mod MoveLines
pub mod ServerLines
pub mod Texts
