-- The words that are used of what stands below.
pub mod Words
-- Lists, options and tests.
pub mod Lists
-- The caches that segments name, and what is pushed to segments.
pub mod Naming
-- What an answer was, where all but its bytes is told.
pub mod Answers
-- Machines without the bytes of their pages.
pub mod Blanks
-- Machines that are alike but for the bytes of their pages.
pub mod Alike
-- The rows of the table: what holds of the machine after a command, and what it answers.
pub mod Rows
-- A temporary cache is made and destroyed, and pages are copied into one.
pub mod Making
pub mod Temporary
pub mod Copies
-- Some caches are hidden from the commands that are passed on; what is mapped is seen.
pub mod Mapped
pub mod Hiding
-- The manager can be called again.
pub mod Calls
