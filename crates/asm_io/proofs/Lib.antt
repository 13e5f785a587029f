pub mod Pieces
pub mod Joined
pub mod Kept
pub mod Given
pub mod Going
