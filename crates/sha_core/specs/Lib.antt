pub mod Fips180
pub mod Examples
pub mod Filled
pub mod Digest
