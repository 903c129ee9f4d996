-- What the definitions of ports say by themselves.
pub mod Definition
-- Which caches are hidden, since messages wait in them, and what is seen of the others.
pub mod Seeing
-- How the ports stay tied to the machine that their manager stands for.
pub mod Ties
-- What a call of the manager comes to, and that it can be called again.
pub mod Calling
-- What each command of ports comes to.
pub mod Commands
