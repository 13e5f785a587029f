pub mod Terms
pub mod Texts
