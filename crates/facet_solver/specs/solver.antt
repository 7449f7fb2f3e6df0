-- What calls of a solver answer, and what they leave of it.
pub mod State
pub mod Tag
pub mod FirstOfEach
pub mod KnownShapes
pub mod KeyResult
pub mod SatisfyResult
pub mod ShapeAtPath
pub mod Probe
pub mod Run
pub mod ByName
pub mod SeenNames
pub mod SeenEntries
pub mod Failure
pub mod Report
pub mod Found
pub mod Told
pub mod Pairs
