pub mod Turns
pub mod Masks
pub mod Once
pub mod Apart
