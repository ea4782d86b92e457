pub mod Kinds
pub mod Spots
pub mod Between
