pub mod Few
pub mod Shallow
pub mod Indexes
pub mod Infos
pub mod Kept
pub mod Passes
