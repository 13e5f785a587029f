pub mod Lists
pub mod Imports
pub mod Refusals
pub mod Answers
pub mod Tokens
