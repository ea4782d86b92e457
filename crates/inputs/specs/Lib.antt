pub mod Layout
pub mod Steps
