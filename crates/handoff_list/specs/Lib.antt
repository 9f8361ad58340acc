pub mod Blocks
pub mod BlocksLaws
pub mod Counting
pub mod Theorems
pub mod Example
