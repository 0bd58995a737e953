pub mod Reaches
pub mod Layering
pub mod Evaluating
pub mod Lines
pub mod Worked
pub mod Existing
pub mod Covered
