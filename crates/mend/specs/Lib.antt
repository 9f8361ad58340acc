pub mod Mend
pub mod MendLaws
