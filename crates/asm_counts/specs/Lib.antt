-- What contracts cite: depth and work together, level by level.
pub mod CountLevels
pub mod CountLaws
