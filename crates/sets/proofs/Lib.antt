pub mod FlagLaws
pub mod LeastFlag
pub mod Passed
