pub mod Items
pub mod Kinds
pub mod ItemsLaws
pub mod Listed
pub mod Judged
pub mod Shapes
pub mod KeptLaws
pub mod Join
