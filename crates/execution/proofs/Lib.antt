pub mod Laws
pub mod Dealt
pub mod Kept
pub mod Held
