pub mod Counted
pub mod Digests
pub mod Shown
pub mod Sides
