pub mod Constructs
pub mod Sets
pub mod Starts
