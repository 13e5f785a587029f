pub mod CopySteps
pub mod LimitSteps
pub mod ListingSteps
pub mod TermSteps
