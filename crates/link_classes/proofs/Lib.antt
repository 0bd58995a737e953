pub mod Chains
pub mod Forests
pub mod Numbers
pub mod Pairs
pub mod UniqueNumbers
pub mod TableNumbers
pub mod OtherTouch
pub mod Worked
