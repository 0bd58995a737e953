pub mod Desks
pub mod Stages
pub mod Jobs
pub mod Answers
pub mod Carrying
pub mod Exact
