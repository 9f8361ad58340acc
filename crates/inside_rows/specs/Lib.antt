pub mod Rows
pub mod ModuleKinds
pub mod RowsLaws
