-- Room was taken for nodes: the manager stands for the same, and its pages can be copied and moved.
use Rattle.std.proofs.Common.{◌≡◌, ℕ, ◌≤◌, Bool, refl, sym}
use Rattle.std.proofs.lemmas.List.{append-nil}
use Rattle.vm_ids.specs.declared.command.Span.{Span}
use Rattle.vm_ids.specs.Forest.Commands.{span_pairs}
use Rattle.vm_ids.specs.Forest.Laws.Commands.{CanCopy}
use Rattle.vm_ids.proofs.Forest.Laws.Ranges.{spans_can_be_copied}
use Rattle.local_cache.specs.Arena.{Arena}
use Rattle.local_cache.specs.Reading as arena
use Rattle.local_cache.specs.Sound as arena_sound
use Rattle.local_cache.specs.Whole.{IsWhole, size_of}
use Rattle.local_cache.proofs.Whole.LivePages.{range_there}
use Rattle.residency.specs.declared.store.Store.{Store}
use Rattle.contexts.specs.Actors.{Actors}
use Rattle.pvm_core.specs.Manager.{IsManagerSound}
use Rattle.pvm_core.proofs.NewCaches.Roomy.{IsRoomy, roomy}
use Rattle.pvm_core.proofs.Spanning.SpanRows.{IsOpen}
use Rattle.pvm_core.proofs.Spanning.Spanned.{apart_of}

pub reserved : (a b : Arena) (s : Store) (t : Actors) (live : ℕ) → b ≡ record a { room = b.room } → a.room.nodes ≤ b.room.nodes → arena.forest_of b ≡ arena.forest_of a
    → arena_sound.IsSound b → IsManagerSound a s t live → IsRoomy a b s s t live
reserved a b s t live kept = roomy a b s s t live kept refl (0, sym (append-nil s.slots))

pub can_copy : (a : Arena) → IsWhole a → (s : Span) {l : Bool} → IsOpen (size_of a s.from.0) (size_of a s.to.0) l s → CanCopy (arena.forest_of a) (span_pairs s)
can_copy a whole s out = spans_can_be_copied (arena.forest_of a) s (range_there a whole s.from s.from_page.0 s.pages out.from out.from_is out.from_ends) (range_there a whole s.to s.to_page.0 s.pages out.to out.to_is out.to_ends) (apart_of s out.apart)
