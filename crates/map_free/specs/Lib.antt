pub mod Free
pub mod Runs
pub mod FreeLaws
pub mod Look
pub mod Sorted
