-- States are defined below, in the specs of values; here is what a function has in one.
pub mod Functions
