mod Find
pub mod TableLaws
