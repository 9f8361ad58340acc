pub mod Lay
pub mod LayLaws
