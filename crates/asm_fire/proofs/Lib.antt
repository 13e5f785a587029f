-- The laws of inverses.
pub mod Back
