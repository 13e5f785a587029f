-- What runs do.
pub mod Leaves
-- The laws of offers and of runs, for this crate and those above.
pub mod ClashLaws
pub mod CourseLaws
pub mod EndLaws
pub mod Following
pub mod FormulaParts
pub mod OfferLaws
pub mod PutLaws
pub mod RunLaws
