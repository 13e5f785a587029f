pub mod RuleWords
pub mod RuleSteps
pub mod LineSteps
pub mod Again
