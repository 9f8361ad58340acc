pub mod DifferenceLaws
pub mod Counting
pub mod CountingLaws
