pub mod Laws
pub mod Forked
