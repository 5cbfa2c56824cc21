pub mod Files
pub mod Names
