pub mod Texts
pub mod Windows
