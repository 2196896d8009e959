mod OfTexts
mod OfSchemes
mod OfSystems
mod OfReports
