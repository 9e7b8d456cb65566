pub mod Places
pub mod PlacesLemmas
