pub mod Export
pub mod PartLaws
pub mod ExportLaws
