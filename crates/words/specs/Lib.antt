pub mod Codes
pub mod Faults
pub mod Makes
pub mod Slots
