pub mod Placing
pub mod Recursing
pub mod Under
