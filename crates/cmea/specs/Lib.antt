pub mod Substitution
pub mod Passes
pub mod Ciphering
