-- What the definitions of processes say by themselves.
pub mod Definition
-- Where an address lies in a process, and what is loaded and stored there.
pub mod Reading
-- How the processes stay tied to the machine that their manager stands for.
pub mod Ties
-- What a call of the manager comes to, and that it can be called again.
pub mod Calling
-- A process gets one part more, or one less.
pub mod Adding
-- A process is begun, and gets what it starts with.
pub mod Starts
-- What each command of processes comes to.
pub mod Commands
