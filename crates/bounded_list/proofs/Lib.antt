pub mod Written
pub mod Founds
