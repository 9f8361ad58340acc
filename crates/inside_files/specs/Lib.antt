pub mod Free
pub mod Parts
pub mod PartKinds
pub mod PartsWalk
pub mod PartsLaws
pub mod PartsEach
pub mod PartsFrame
pub mod FreeLaws
