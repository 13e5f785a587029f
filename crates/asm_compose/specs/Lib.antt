-- What contracts cite: offers, the run of a formula and its steps.
pub mod Putting
pub mod Merging
pub mod Offers
pub mod Runs
pub mod Steps
pub mod Courses
pub mod TextOrder
