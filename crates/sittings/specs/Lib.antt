pub mod Fired
pub mod Sittings
