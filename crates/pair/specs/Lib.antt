pub mod Forks
pub mod Lent
