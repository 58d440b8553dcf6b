pub mod Modes
pub mod Highest
pub mod Scales
