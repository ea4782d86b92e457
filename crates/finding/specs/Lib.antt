pub mod Known
pub mod Reads
