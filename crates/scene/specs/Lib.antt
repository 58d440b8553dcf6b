pub mod Below
pub mod Faults
pub mod Inner
pub mod Parts
pub mod Places
pub mod Recursion
pub mod Scenes
