pub mod Digits
pub mod Entry
