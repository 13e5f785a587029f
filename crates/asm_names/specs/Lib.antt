pub mod Alike
pub mod Definitions
pub mod Numbers
pub mod Passes
pub mod Places
