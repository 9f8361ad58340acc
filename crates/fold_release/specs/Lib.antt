pub mod Each
pub mod EachLaws
pub mod Theorems
pub mod Small
