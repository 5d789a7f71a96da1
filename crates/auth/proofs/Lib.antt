pub mod Crossed
pub mod Derived
