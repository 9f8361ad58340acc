pub mod Order
pub mod OrderLaws
pub mod Forms
pub mod FormLaws
