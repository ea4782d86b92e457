pub mod Begun
pub mod Shown
pub mod Lists
pub mod Prepared
