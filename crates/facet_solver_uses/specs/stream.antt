-- What a streaming reader tells a solver, and what it answers.
pub mod Place
pub mod Candidates
pub mod Tell
pub mod Events
pub mod Documents
pub mod Found
