-- What contracts cite: outcomes of rules and of their parts.
pub mod Outcomes
