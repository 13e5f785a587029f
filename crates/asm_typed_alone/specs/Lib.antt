-- What contracts cite.
pub mod Alone
pub mod Kept
pub mod Listed
