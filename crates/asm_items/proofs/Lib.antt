pub mod DomainSteps
pub mod ModelSteps
pub mod RangeSteps
pub mod RuleSteps
pub mod Sets
pub mod Steps
pub mod TermSteps
