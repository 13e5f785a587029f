-- What contracts cite: seats and their entries, tokens, the journal under the lock, commits, looks.
pub mod Commits
pub mod FailingMakers
pub mod Faults
pub mod Gathered
pub mod Journals
pub mod LockedJournals
pub mod Looks
pub mod MemoryGates
pub mod Rules
pub mod Seats
pub mod Tokens
pub mod Versions
