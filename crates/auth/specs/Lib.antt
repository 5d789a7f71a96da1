pub mod Loading
pub mod Reading
pub mod Keys
pub mod Uses
