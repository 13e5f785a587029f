pub mod InRanges
pub mod InScope
pub mod Parts
pub mod Products
pub mod Refusals
pub mod Steps
