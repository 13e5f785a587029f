pub mod Answers
pub mod Forms
pub mod Own
pub mod Sizes
