-- What contracts cite.
pub mod Counted
pub mod Rounds
pub mod Walks
