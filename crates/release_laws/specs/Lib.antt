pub mod Theorems
pub mod Older
pub mod Small
