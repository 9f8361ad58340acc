pub mod Output
pub mod Taken
pub mod Theorems
