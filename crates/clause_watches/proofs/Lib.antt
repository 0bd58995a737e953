mod Listings
pub mod Fronts
mod Visits
pub mod Kept
pub mod Worked
