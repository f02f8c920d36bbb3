pub mod Ledger
pub mod Meaning
pub mod Judging
pub mod Calls
pub mod Run
pub mod Walking
pub mod Cases
