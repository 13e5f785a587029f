-- Lemmas of loops, and the steps of rules.
pub mod Binding
pub mod Combined
pub mod Heights
pub mod Parts
pub mod Steps
