pub mod Accepted
pub mod Leaves
pub mod Checked
pub mod DoneRows
pub mod States
pub mod Resumed
