pub mod Header
pub mod Base
pub mod HeaderLaws
