-- The law of two managers: what pushes leave, each row, and whole runs.
pub mod Pushes
pub mod Rows
pub mod Runs
pub mod FramedAnswers
