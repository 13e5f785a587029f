pub mod Transcripts
pub mod Headline
pub mod Replies
pub mod Sessions
pub mod Words
