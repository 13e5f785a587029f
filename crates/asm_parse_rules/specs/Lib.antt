pub mod Lines
pub mod Nests
pub mod Parts
