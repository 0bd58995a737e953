pub mod Soundness
pub mod Leading
pub mod Scanning
pub mod Keeps
pub mod Faults
pub mod Derivations
pub mod Worked
pub mod WorkedLines
