pub mod Joining
pub mod Loops
pub mod Trees
