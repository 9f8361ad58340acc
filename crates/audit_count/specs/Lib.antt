pub mod Differences
pub mod FlipLaws
pub mod DifferenceLaws
pub mod Counting
pub mod CountingLaws
pub mod Windows
