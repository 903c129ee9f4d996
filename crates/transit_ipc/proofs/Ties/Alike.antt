-- The ties hold of each machine that is alike but for the bytes of its pages.
use Rattle.std.proofs.Common.{ℕ, Bool, true, false, cond, List, Option, None, refl, sym, subst, ◌∙◌}
use Rattle.std.specs.Bool.{IsTrue}
use Rattle.std.specs.List.{list_any}
use Rattle.std.specs.Prelude.{IsSome}
use Rattle.vm_model.proofs.Parts.Lists.{is_there}
use Rattle.interface_callers.proofs.Words.{Actor, Cache, Machine, cache_of, maps_in}
use Rattle.interface_callers.proofs.Alike.{HasShape, shape_cache, still_temporary}
use Rattle.transit_ipc.specs.Seen.{memory_seen}
use Rattle.transit_ipc.specs.Transit.{is_transit}
use Rattle.transit_ipc.specs.Tying.{AreTied, IsMessage}
use Rattle.transit_ipc.specs.declared.port.Message.{Message}
use Rattle.transit_ipc.specs.declared.port.Port.{Port}
use Rattle.transit_ipc.proofs.Seeing.Seen.{numbered_seen}

pub some_shown : (b : Bool) (o p : Option Cache) → (IsSome o → IsSome p) → IsSome (cond b None o) → IsSome (cond b None p)
some_shown true o p f h = h
some_shown false o p f h = f h

module _ (m n : Machine) (ports : List Port) (l : HasShape m n) (t : AreTied m ports) where
  message_like : (x : Message) → IsMessage m x → IsMessage n x
  message_like x h =
      let d = shape_cache m n l x.cache.0 h.cache h.there in
      record { cache = d.0; there = d.1; some = h.some; many = d.2.many ∙ h.many }

  alive : (k : ℕ) → IsSome (cache_of m k) → IsSome (cache_of n k)
  alive k h =
      let c = is_there (cache_of m k) h in
      let d = shape_cache m n l k c.0 c.1 in
      subst (λ (o : Option Cache). IsSome o) (sym d.1) refl

  seen_like : (k : ℕ) → IsSome (cache_of (memory_seen m ports) k) → IsSome (cache_of (memory_seen n ports) k)
  seen_like k h =
      subst (λ (o : Option Cache). IsSome o) (sym (numbered_seen (is_transit ports) n.caches k))
      (some_shown (is_transit ports k) (cache_of m k) (cache_of n k) (alive k)
      (subst (λ (o : Option Cache). IsSome o) (numbered_seen (is_transit ports) m.caches k) h))

  pub tied_like : AreTied n ports
  tied_like = record {
    messages = λ i j x w. message_like x (t.messages i j x w);
    apart = t.apart;
    mapped = λ k is. seen_like k (t.mapped k (subst (λ (actors : List (Option Actor)). IsTrue (list_any (maps_in k) actors)) l.actors is));
    temporary = still_temporary m n l t.temporary;
    deep = t.deep;
    roomy = t.roomy;
    few = t.few;
  }
