pub mod Said
pub mod NewSittings
