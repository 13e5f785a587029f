pub mod Language
pub mod Preparing
pub mod Servers
pub mod Works
pub mod World
pub mod Formulas
pub mod Wholes
