pub mod Cover
pub mod Covering
pub mod Tables
pub mod Views
