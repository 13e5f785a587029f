-- The laws of values, domains, locations, states and sets of updates, for this crate and those
-- above.
pub mod ClashLaws
pub mod DomainLaws
pub mod EnumerableLaws
pub mod FiringLaws
pub mod Listing
pub mod LivingLaws
pub mod MemberLists
pub mod MembersLaws
pub mod ProperLaws
pub mod RangeLaws
pub mod SizeLaws
pub mod StateLaws
pub mod UpdateSetLaws
pub mod ValueLaws
