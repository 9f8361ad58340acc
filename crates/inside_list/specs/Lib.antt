pub mod Inventory
pub mod InventoryLaws
pub mod Few
pub mod Narrow
pub mod Counting
pub mod Filling
pub mod Examples
