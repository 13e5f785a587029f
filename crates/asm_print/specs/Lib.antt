pub mod RuleParts
pub mod LineParts
pub mod Again
