pub mod Judging
pub mod Jobbing
pub mod Answering
pub mod Alike
pub mod Worked
