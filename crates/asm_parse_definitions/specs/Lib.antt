pub mod Lists
pub mod Reader
pub mod Sets
