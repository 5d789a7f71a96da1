pub mod Turns
pub mod Permutes
pub mod Halves
pub mod Lawful
