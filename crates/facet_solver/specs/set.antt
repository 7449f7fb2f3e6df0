-- Sets of indices.
pub mod IndexSet
pub mod Words
pub mod SharedBits
