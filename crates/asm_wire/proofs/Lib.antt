mod Members
pub mod Parts
pub mod Asked
pub mod OneLine
pub mod Objects
