pub mod Numbers
pub mod OverPlaces
