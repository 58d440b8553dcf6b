pub mod Adding
pub mod Classing
pub mod Ending
pub mod Entering
pub mod Operanding
pub mod Sofar
