-- What contracts cite.
pub mod Assembled
