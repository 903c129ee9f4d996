pub mod Digits
pub mod Forms
pub mod Generated
pub mod Hexadecimal
-- Lines of scripts of segments that are opened again.
pub mod KeepForms
pub mod KeepWorked
-- Lines of scripts of processes.
pub mod MixForms
pub mod MixWorked
-- Lines of scripts of message ports.
pub mod PortForms
pub mod PortWorked
pub mod Numbers
-- Operands that have a space in them.
pub mod Operands
-- Bytes, read from two digits each.
pub mod Replies
-- Lines of scripts that have some commands of actors, and others besides.
pub mod Sharing
pub mod Splitting
pub mod Tallied
pub mod Verbs
-- Lines that are accesses.
pub mod Accesses
pub mod WellFormed
pub mod Worked
pub mod Written
-- The front of a line is read as the line.
pub mod Fronts
