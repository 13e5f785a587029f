pub mod Firsts
pub mod Forms
pub mod Domains
pub mod Terms
pub mod Rules
pub mod Models
