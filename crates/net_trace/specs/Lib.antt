pub mod Touching
pub mod Nets
pub mod Wirings
pub mod Same
