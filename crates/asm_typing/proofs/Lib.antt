-- The laws of types, for this crate and those above.
pub mod DomainLaws
pub mod Examples
pub mod FitLaws
pub mod JoinLaws
pub mod TypeSteps
pub mod ValueLaws
