pub mod Requests
pub mod Refused
pub mod Lines
