pub mod Asking
pub mod SumLaws
