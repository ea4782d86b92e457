pub mod Seen
pub mod Opened
