pub mod Each
pub mod Telling
pub mod Endings
pub mod Replies
