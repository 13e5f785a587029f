-- What contracts cite: orders and ranks of definitions that call one another, rows of bits, and the
-- calls of a text.
pub mod Nested
pub mod Orders
pub mod Rows
pub mod TextLaws
pub mod TextRefusals
pub mod Texts
