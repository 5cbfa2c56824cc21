mod Seen
mod Names
mod Below
