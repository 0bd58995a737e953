pub mod Channels
pub mod Transistors
pub mod Refusals
pub mod Contacts
