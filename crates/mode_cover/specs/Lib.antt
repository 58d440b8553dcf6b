pub mod Modes
pub mod Ruled
