pub mod Options
pub mod Sizes
pub mod Missed
pub mod Resumes
pub mod Leading
pub mod AsFires
mod Rising
pub mod Surveys
pub mod Histories
pub mod Transcripts
pub mod Promised
pub mod Pinning
pub mod Unless
pub mod OneMore
pub mod Answered
