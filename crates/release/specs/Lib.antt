pub mod Release
pub mod Releasable
pub mod ReleaseLaws
