pub mod Causes
pub mod Lines
pub mod Readings
pub mod LineEnds
pub mod LineBufView
pub mod Steps
pub mod Memory
