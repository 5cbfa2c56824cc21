pub mod Flagged
pub mod Searching
pub mod Reaching
pub mod Turned
pub mod SetRows
