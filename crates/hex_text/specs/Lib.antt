pub mod Hex
pub mod Sizes
pub mod Splits
