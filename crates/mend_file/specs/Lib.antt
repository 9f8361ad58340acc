pub mod PutBack
pub mod PutBackLaws
pub mod Laid
