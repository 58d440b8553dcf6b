pub mod Walks
pub mod Narrowing
pub mod Views
pub mod Kinds
pub mod Laws
