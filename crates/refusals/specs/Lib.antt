pub mod Number
pub mod Refused
