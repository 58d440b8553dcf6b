pub mod Does
pub mod Walks
