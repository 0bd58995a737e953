pub mod Sides
pub mod Words
pub mod Stages
pub mod Views
