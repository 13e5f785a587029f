pub mod Enters
pub mod Lines
pub mod Nests
