pub mod WordLemmas
pub mod SideLemmas
pub mod StageLemmas
pub mod Worked
