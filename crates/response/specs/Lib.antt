pub mod Held
pub mod Replies
