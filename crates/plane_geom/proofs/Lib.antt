pub mod Counting
pub mod Ends
pub mod Lists
pub mod Options
pub mod Ranges
pub mod Reaching
pub mod Turning
pub mod Worked
