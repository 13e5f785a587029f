pub mod Formulas
pub mod Grammar
pub mod Parsing
pub mod Reading
pub mod Reads
pub mod Scan
pub mod Texts
pub mod Tokens
