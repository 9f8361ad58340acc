pub mod Blocks
pub mod BlocksLaws
