pub mod Grammar
pub mod Readers
pub mod Seen
pub mod Words
