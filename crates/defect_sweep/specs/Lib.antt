pub mod Sides
pub mod Counting
pub mod Bridges
pub mod Reaching
pub mod SideTexts
