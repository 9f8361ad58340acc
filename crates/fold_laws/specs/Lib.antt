pub mod Steps
pub mod SheetLaws
pub mod BytesLaws
pub mod SameLaws
pub mod Alone
pub mod Theorems
pub mod UpTo
pub mod Three
