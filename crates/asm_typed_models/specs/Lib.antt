-- What contracts cite.
pub mod Defined
pub mod Forms
