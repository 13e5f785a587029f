mod Floats
mod Puts
mod Digits
mod Named
pub mod Ascending
pub mod PortLaws
pub mod PortOrder
pub mod JsonLaws
pub mod ReadingLaws
pub mod TreeLaws
pub mod ValuesLaws
pub mod WeightLaws
pub mod MemberValues
mod Levels
mod Integers
mod Members
mod PartsBack
mod Back
mod Found
mod OwnNames
mod SameSets
