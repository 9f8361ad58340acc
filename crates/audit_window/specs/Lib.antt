pub mod Window
pub mod WindowLaws
pub mod DrawLaws
