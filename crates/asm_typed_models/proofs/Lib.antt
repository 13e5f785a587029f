-- The lemmas of the fifth pass.
pub mod BodySteps
pub mod Distinct
pub mod Lists
pub mod Slices
pub mod Steps
pub mod Whole
