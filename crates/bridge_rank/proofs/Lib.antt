pub mod OneOrder
pub mod Ranks
pub mod Worked
pub mod SideTextLemmas
