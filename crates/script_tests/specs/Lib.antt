pub mod Postponed
