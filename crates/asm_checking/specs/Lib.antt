-- What contracts cite.
pub mod Canonicals
pub mod Reported
