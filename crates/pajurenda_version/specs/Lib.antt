pub mod Version
pub mod VersionLaws
