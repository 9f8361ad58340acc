pub mod Owners
pub mod OwnersLaws
