pub mod Reading
pub mod Columns
pub mod LastBytes
pub mod Nesting
