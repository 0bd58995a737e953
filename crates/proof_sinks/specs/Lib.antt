pub mod Calls
pub mod Views
pub mod Lines
pub mod Text
pub mod Checking
pub mod Sending
