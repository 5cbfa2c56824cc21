pub mod Allowances
pub mod Renamings
pub mod Piles
