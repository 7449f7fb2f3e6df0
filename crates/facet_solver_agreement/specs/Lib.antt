pub mod Met
pub mod Alike
pub mod Asked
pub mod Indices
pub mod Same
pub mod Kept
pub mod Fits
pub mod Throughout
