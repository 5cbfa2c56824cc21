pub mod Added
pub mod Bounds
pub mod Rows
pub mod Yielded
pub mod FittingRows
