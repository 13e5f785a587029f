pub mod Enclosed
pub mod Names
pub mod Nests
