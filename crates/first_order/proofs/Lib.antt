mod Added
mod Rows
mod Marked
mod Moved
mod Reading
mod Counting
mod SafeFirings
pub mod Chosen
pub mod Going
pub mod Turns
