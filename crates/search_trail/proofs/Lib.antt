pub mod Members
pub mod Table
pub mod Growing
pub mod Walks
pub mod Teaches
pub mod Jumps
pub mod Worked
