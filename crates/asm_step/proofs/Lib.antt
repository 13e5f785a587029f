-- Marks of functions, and how steps end.
pub mod Monitored
pub mod Ends
