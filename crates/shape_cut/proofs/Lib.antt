pub mod Crossings
pub mod Hulls
pub mod Pairing
pub mod Segments
pub mod Slabs
pub mod Worked
