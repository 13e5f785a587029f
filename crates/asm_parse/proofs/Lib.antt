pub mod ImportTurns
pub mod Answers
pub mod Texts
pub mod Once
