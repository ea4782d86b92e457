pub mod Steps
pub mod Stated
