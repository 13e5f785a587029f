pub mod Programs
pub mod Terms
pub mod Texts
