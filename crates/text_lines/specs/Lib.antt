pub mod Text
pub mod TextLaws
pub mod Lines
pub mod LineLaws
