pub mod AfterYear
pub mod Mended
pub mod Folded
pub mod Met
