pub mod Following
pub mod Refusing
pub mod Left
pub mod Keeping
pub mod Marking
pub mod Deriving
pub mod LineText
