pub mod Bodies
pub mod RoundSteps
pub mod RuleDepth
pub mod Tables
pub mod Tells
pub mod Texts
pub mod WalkSteps
