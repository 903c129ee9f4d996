use Rattle.std.proofs.Common.{◌≡◌, ◌+◌, ◌≤◌, length, map, vec_len}
use Rattle.vm_model.specs.Answering.{overwrite}
use Rattle.vm_model.specs.Seen.{pages_seen}
use Rattle.vm_model.proofs.copies.put_pages.Given as goal

abbrev pub invariant-loop-page : goal.invariant-loop-page
invariant-loop-page l = (l.first + length l.pages.items ≤ length l.cache.pages.items) × (overwrite l.first (map (λ p. p.items) l.pages.items) (pages_seen l.cache) ≡ overwrite l.first (map (λ p. p.items) l.initial.pages.items) (pages_seen l.initial.cache)) × (l.cache.segment ≡ l.initial.cache.segment)

abbrev pub decreases-loop-page : goal.decreases-loop-page
decreases-loop-page l = vec_len l.pages
