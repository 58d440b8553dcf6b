pub mod Prefixes
pub mod Views
