pub mod Linked
pub mod Numbering
pub mod Classes
pub mod Forest
