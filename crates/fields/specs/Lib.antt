pub mod Fields
pub mod Laws
pub mod Words
