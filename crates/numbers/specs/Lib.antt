pub mod Mod
pub mod Sum
pub mod Prime
pub mod Inverse
pub mod Output
pub mod Residue
