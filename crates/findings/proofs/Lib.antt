pub mod CutOffs
pub mod Listed
