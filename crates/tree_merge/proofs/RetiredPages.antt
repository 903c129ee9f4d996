-- Many pages are retired at once.

-- One page is retired after the other.
pub mod InTurn
-- One page is retired, and its node goes.
pub mod OnePage
-- Pages on which nothing hangs.
pub mod Leaves
-- One page is retired whose node stays for others.
pub mod SharedPage
-- Pages on which others hang.
pub mod SharedPages
-- Pages whose nodes are alike can be retired at once.
pub mod AtOnce
