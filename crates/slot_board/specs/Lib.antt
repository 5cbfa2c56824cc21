pub mod Slots
pub mod Loads
pub mod Passes
pub mod Occurs
pub mod Shown
