pub mod Labels
pub mod Names
pub mod Layouts
pub mod Binding
pub mod Refusals
pub mod Tags
pub mod Same
