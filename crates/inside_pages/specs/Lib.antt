pub mod Pages
pub mod PagesLaws
