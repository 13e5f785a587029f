pub mod Words
pub mod TermWords
pub mod TermSteps
pub mod Texts
