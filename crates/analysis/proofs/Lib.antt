pub mod Replacing
pub mod Copies
pub mod Concluding
