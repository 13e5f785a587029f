pub mod Turns
pub mod Enclosed
pub mod Named
pub mod Nested
