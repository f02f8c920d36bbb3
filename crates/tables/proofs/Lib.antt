pub mod Rows
pub mod Walk
pub mod Grids
pub mod Pinned
