-- What errors of a solver say.
pub mod ErrorView
pub mod QuotedNames
pub mod ErrorTexts
