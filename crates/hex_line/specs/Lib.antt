pub mod Written
pub mod WriteLaws
