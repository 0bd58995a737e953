pub mod Trails
pub mod Placing
pub mod Walking
pub mod Learning
