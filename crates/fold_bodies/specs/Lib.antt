pub mod Bodies
pub mod BodiesLaws
