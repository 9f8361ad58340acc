pub mod Station
