pub mod Lfsr
pub mod Table
pub mod Bytes
pub mod Sides
pub mod Mix
pub mod Rounds
pub mod Tries
pub mod Law
