pub mod Checking
pub mod DomainTrees
pub mod IndexSteps
pub mod SameSteps
