pub mod Written
pub mod Parts
pub mod Going
pub mod CommandLine
pub mod Fixed
