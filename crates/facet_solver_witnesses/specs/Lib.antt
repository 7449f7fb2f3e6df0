pub mod WayNames
pub mod Several
pub mod Trees
pub mod Shown
pub mod Covered
