pub mod Calls
pub mod Sums
pub mod Runs
pub mod Lines
