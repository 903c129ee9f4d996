-- What a command line asks for, as the definition has it and as clap reads it.
pub mod CommandLine
-- What a run promises, from how its replay ends.
pub mod Promise
-- The lines that a number makes, one after another.
pub mod Made
-- What the calls of a manager leave for the next one.
pub mod Calling
-- A trial, from the answers that were counted.
pub mod Tallying
-- What a trial promises, from how its lines are answered.
pub mod Trials
-- Lines that are answered at once: what was answered.
pub mod Answered
-- The lines of scripts of message ports ask only well-formed commands.
pub mod PortsFormed
-- And those of scripts of segments that are opened again.
pub mod KeepsFormed
-- Calls of a manager in which each live page has a page frame.
pub mod Framing
