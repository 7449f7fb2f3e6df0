-- A schema, the handles of its resolutions, and its index.
pub mod Schema
pub mod SchemaStorage
pub mod ResolutionHandle
pub mod Slots
pub mod Selected
pub mod FewShapes
pub mod IndexEntries
pub mod Indexed
