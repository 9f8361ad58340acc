pub mod SetAt
pub mod Cells
pub mod CellsLaws
pub mod ReachLaws
