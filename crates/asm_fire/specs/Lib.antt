-- What contracts cite: updates back to a state.
pub mod Inverses
