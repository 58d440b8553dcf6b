pub mod Lowest
pub mod Staging
pub mod Resting
mod Verdicts
