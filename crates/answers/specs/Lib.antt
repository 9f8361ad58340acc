pub mod After
pub mod AfterLaws
pub mod ExactlyAfter
pub mod ExactlyAfterLaws
