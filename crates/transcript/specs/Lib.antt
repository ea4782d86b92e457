pub mod Layout
pub mod Seen
pub mod Replies
