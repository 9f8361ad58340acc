pub mod Cleared
pub mod Only
pub mod Left
pub mod Theorems
pub mod Small
