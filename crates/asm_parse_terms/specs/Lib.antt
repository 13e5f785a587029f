pub mod HeightParts
pub mod Lines
