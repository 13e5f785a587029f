-- What stands behind what, and the models of some names.
pub mod Behind
pub mod Among
