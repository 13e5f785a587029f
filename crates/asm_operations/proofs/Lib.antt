-- Lemmas of this crate.
pub mod Division
pub mod Intervals
pub mod LimitLaws
pub mod ProperParts
pub mod ProperResults
pub mod SetLaws
