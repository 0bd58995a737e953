pub mod CommandsExact
pub mod Worked
