-- The lemmas of views and of evaluation.
pub mod EvalHeights
pub mod EvalLaws
pub mod EvalSteps
pub mod LiveLaws
pub mod OverlayLaws
pub mod StartLaws
