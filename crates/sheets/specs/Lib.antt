pub mod Parts
pub mod Verdicts
pub mod Found
pub mod Reasons
pub mod Judged
pub mod Cases
