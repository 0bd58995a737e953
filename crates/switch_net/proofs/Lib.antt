pub mod Steps
pub mod Paths
pub mod Marking
pub mod Choosing
pub mod Checking
pub mod Passes
pub mod Driving
pub mod Worked
