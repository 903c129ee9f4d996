use Rattle.std.proofs.Common.{◌≡◌, take, drop, None}
use Rattle.local_cache.specs.Reading.{stubs_of}
use Rattle.local_cache.specs.Threads.{head_or}
use Rattle.page_stubs.specs.Handing.{Handed}
use Rattle.page_stubs.proofs.handing.reparent.Given as goal

abbrev pub invariant-loop-i : goal.invariant-loop-i
invariant-loop-i l = record {
  handed : Handed l.fn.caches l.caches (take l.i (stubs_of l.fn.caches l.fn.from)) l.to;
  next : l.at ≡ head_or (drop l.i (stubs_of l.fn.caches l.fn.from)) None;
}
