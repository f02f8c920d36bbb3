pub mod Outcomes
pub mod Reports
pub mod Windows
