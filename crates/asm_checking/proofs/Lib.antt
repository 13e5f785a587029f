pub mod Canonicals
pub mod Causes
pub mod Meanings
pub mod Places
