pub mod Fips197
pub mod Example
pub mod ByteLaws
