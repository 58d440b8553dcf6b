pub mod Doings
pub mod Steps
