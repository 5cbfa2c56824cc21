pub mod Making
pub mod Memories
pub mod Replaying
pub mod Performing
