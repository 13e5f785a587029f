-- What contracts cite: types of terms, which fits which, what they join to, what operators give.
pub mod Domains
pub mod Examples
pub mod Fits
pub mod Joins
pub mod Operators
pub mod Order
pub mod Types
pub mod Values
