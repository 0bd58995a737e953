pub mod Bounds
pub mod Cells
pub mod Covering
pub mod Ends
pub mod Names
pub mod Placement
pub mod Texts
