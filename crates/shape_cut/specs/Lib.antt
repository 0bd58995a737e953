pub mod Slabs
