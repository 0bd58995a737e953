pub mod Columns
pub mod Joins
pub mod Rows
pub mod Strips
pub mod Sweeping
