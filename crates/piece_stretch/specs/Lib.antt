pub mod Stretch
pub mod StretchLaws
