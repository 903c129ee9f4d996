-- Which translations are dropped, step by step.
pub mod Given
pub mod Homes
pub mod Whole
