pub mod Bare
pub mod Again
