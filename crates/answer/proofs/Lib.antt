pub mod Pinnings
pub mod Facts
pub mod Opening
