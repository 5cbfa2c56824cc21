pub mod Tables
pub mod Shows
