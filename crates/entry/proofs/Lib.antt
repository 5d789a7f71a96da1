pub mod Scan
pub mod Answer
