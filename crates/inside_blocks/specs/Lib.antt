pub mod Blocks
pub mod BlocksWalk
pub mod BlocksLaws
pub mod Examples
pub mod BlocksEach
pub mod BlocksFrame
pub mod BlocksPaged
