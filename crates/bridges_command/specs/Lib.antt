pub mod Report
pub mod Command
pub mod Views
pub mod Reports
