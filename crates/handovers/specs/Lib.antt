pub mod Made
pub mod Memories
pub mod HandedOver
pub mod Performed
pub mod Transcripts
