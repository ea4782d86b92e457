pub mod Tree
pub mod TreeLaws
