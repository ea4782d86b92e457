pub mod Laws
pub mod Chosen
