mod Adding
pub mod Gathers
mod Journals
mod LastLooks
mod Longest
mod Prefixes
mod Rising
mod SeatLists
mod Settling
