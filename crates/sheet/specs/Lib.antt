pub mod Sheet
pub mod ReadSheet
pub mod SheetLaws
pub mod ByteAt
pub mod ByteAtLaws
