pub mod Steps
pub mod Tables
pub mod Frames
pub mod Laws
