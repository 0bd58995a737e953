pub mod Causes
pub mod Files
pub mod Written
pub mod Text
pub mod Plan
pub mod Memory
pub mod Devices
