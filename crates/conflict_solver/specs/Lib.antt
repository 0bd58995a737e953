pub mod Deriving
pub mod Answering
pub mod Joining
pub mod Setting
pub mod Running
