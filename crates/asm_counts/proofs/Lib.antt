pub mod RuleLaw
pub mod RuleSteps
pub mod Sums
pub mod TermLaw
pub mod TermSteps
pub mod Told
