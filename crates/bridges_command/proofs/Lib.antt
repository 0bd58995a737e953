pub mod LineLemmas
pub mod BridgesExact
pub mod Judged
