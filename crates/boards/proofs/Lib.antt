pub mod RowSums
pub mod AtPlace
pub mod Moves
pub mod Permuted
