pub mod Rowing
pub mod Sofar
