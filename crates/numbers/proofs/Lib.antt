pub mod Mod
pub mod Inverse
pub mod Residue
pub mod Output
pub mod Prime
pub mod Sum
