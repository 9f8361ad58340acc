pub mod Ways
pub mod RunLaws
