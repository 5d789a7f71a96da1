pub mod Kind
pub mod Head
pub mod Trip
pub mod Laws
