pub mod Message
pub mod PaddedLaws
pub mod MessageLaws
