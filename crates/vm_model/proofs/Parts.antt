-- Lists, and what has a number in them.
pub mod Lists
pub mod ListParts
pub mod Naming
pub mod Pairs
pub mod Distinct
