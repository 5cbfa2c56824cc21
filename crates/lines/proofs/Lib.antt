pub mod Decimals
mod Putting
mod Digits
mod Pieces
pub mod Fitting
