pub mod SolveExact
pub mod SoFar
