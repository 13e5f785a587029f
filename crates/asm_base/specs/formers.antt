-- The types of this crate that hold values, a module for each source file.
pub mod boxed
pub mod list
