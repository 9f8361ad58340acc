pub mod Clear
pub mod ClearLaws
pub mod Runs
pub mod RunsLaws
pub mod Windows
pub mod WindowsLaws
