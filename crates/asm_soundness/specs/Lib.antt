-- Which states are well formed, which programs are sorted, and what starts and steps keep.
pub mod Keeping
pub mod Runs
pub mod Sorted
pub mod WellFormed
