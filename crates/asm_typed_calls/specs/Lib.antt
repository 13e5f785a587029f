-- What contracts cite: texts of which the first five passes refuse nothing, and the numbers of their
-- definitions.
pub mod CalledNames
