pub mod Switches
pub mod Pairs
pub mod Inputs
pub mod Conduction
pub mod Refusals
pub mod Marks
pub mod Spreads
