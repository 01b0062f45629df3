pub mod CornerNumbers
pub mod FreedTerms
pub mod LeastPlaces
