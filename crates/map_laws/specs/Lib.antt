pub mod Claims
pub mod Maps
pub mod Places
pub mod Example
