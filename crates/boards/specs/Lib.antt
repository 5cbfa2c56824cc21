pub mod Boards
pub mod Rows
pub mod Shown
