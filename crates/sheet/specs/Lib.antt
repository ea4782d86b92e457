pub mod Sheet
pub mod Counted
pub mod Cases
