pub mod FirstAt
