pub mod Led
pub mod Leads
