pub mod Answering
pub mod Laws
