pub mod Answering
pub mod Homes
pub mod Keeping
pub mod Placing
pub mod Sounding
