pub mod WordNames
