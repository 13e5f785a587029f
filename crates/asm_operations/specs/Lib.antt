-- What contracts cite: what each row of the operators' table computes, and the laws of it.
pub mod Examples
pub mod Laws
pub mod Limits
pub mod Numbers
pub mod Operations
pub mod Readers
pub mod Results
pub mod Sequences
pub mod Sets
pub mod Terms
pub mod Texts
