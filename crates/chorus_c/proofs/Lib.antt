-- What a machine answers.
mod Answering
-- What a machine begins with.
mod Beginning
-- By how much a command raises the counters.
mod Raising
