-- What becomes of a cache that no region maps where it is destroyed: it is gone, or the mapper
-- failed. A temporary one is gone.
use Rattle.std.proofs.Common.{◌≡◌, ◌⊎◌, inl, inr, ℕ, ◌<◌, Bool, false, Option, Some, None, refl, sym, ap, subst, ◌∙◌}
use Rattle.std.specs.Prelude.{Ok, Err, is_some, option_and_then, option_map}
use Rattle.std.specs.Bool.{IsTrue}
use Rattle.std.specs.Option.{option_map_or}
use Rattle.vm_ids.specs.declared.command.Command.TheVariants as commands
use Rattle.vm_ids.specs.declared.refusal.Refusal.TheVariants as refusals
use Rattle.vm_ids.specs.declared.reply.FaultAt.TheVariants as faults
use Rattle.vm_ids.specs.declared.reply.Reply.TheVariants as replies
use Rattle.vm_ids.specs.declared.reply.Trouble.TheVariants as troubles
use Rattle.interface_callers.proofs.Words.{Answer, Cache, CacheId, FaultAt, IsNamed, Machine, MapperCounts, Outcome, OutcomeAt, PageForest, Segments, blank, blank_cache, cache_of, destroy_of, is_mapped, reply, segment_of, unless, with_some}
use Rattle.interface_callers.proofs.Alike.{AllTemporary}
use Rattle.interface_callers.proofs.Answers.{still_done, still_err}
use Rattle.interface_callers.proofs.Blanks.{blank_at, blank_without, whole_cache, without}
use Rattle.interface_callers.proofs.Rows.{IsDone, is_done}

-- What no segment names

pub no_name : (m : Machine) (cache : ℕ) → segment_of m cache ≡ None → IsNamed m cache → ⊥
no_name m cache none named = by (cache_of m cache) none named
  where
    by : (o : Option Cache) → option_and_then (λ (c : Cache). c.segment) o ≡ None → IsTrue (option_map_or (λ (c : Cache). is_some c.segment) o false) → ⊥
    by None none named = absurd (cc named)
    by (Some c) none named = let wrong : IsTrue false = subst (λ (s : Option ℕ). IsTrue (is_some s)) none named in absurd (cc wrong)

pub nameless : (m : Machine) (k : ℕ) (c : Cache) → cache_of m k ≡ Some c → c.segment ≡ None → segment_of m k ≡ None
nameless m k c there none = ap (option_and_then (λ (c : Cache). c.segment)) there ∙ none

pub unnamed : (m : Machine) → AllTemporary m → (cache : ℕ) → segment_of m cache ≡ None
unnamed m all cache = by (cache_of m cache) (all cache)
  where
    by : (o : Option Cache) → ((c : Cache) → o ≡ Some c → c.segment ≡ None) → option_and_then (λ (c : Cache). c.segment) o ≡ None
    by None none = refl
    by (Some c) none = none c refl

named_blank : (w : Machine) (k : ℕ) → IsNamed w k → IsNamed (blank w) k
named_blank w k named = subst (λ (o : Option Cache). IsTrue (option_map_or (λ (c : Cache). is_some c.segment) o false)) (sym (blank_at w k)) (by (cache_of w k) named)
  where
    by : (o : Option Cache) → IsTrue (option_map_or (λ (c : Cache). is_some c.segment) o false) → IsTrue (option_map_or (λ (c : Cache). is_some c.segment) (option_map blank_cache o) false)
    by None named = named
    by (Some c) named = named

-- The mapper failed, and the machine stays.
pub record IsFault (m : Machine) (cache : ℕ) (a : Answer) (n : Machine) (rises : MapperCounts) : Type 0 where
  pub at : FaultAt
  pub is : a ≡ Err (troubles.Mapper at)
  pub same : n ≡ m
  pub failed : 0 < rises.faults
  pub named : IsNamed m cache

destroyed : (m : Machine) (cache : ℕ) (c : Cache) → cache_of m cache ≡ Some c → is_mapped m cache ≡ false → destroy_of m cache ≡ reply replies.Done (without m cache)
unfolding destroy_of with_some unless
destroyed m cache c there free =
    ap (λ (o : Option Cache). with_some o refusals.NoCache m (λ c. unless (is_mapped m cache) refusals.InUse m (reply replies.Done (without m cache)))) there
    ∙ ap (λ (b : Bool). unless b refusals.InUse m (reply replies.Done (without m cache))) free

by_outcome : (m : Machine) (f : Option PageForest) (cache : CacheId) (c : Cache) → cache_of m cache.0 ≡ Some c → is_mapped m cache.0 ≡ false → (h : Segments) (a : Answer) (n : Machine) (rises : MapperCounts)
    → Outcome m f (commands.Destroy cache) h a n rises → IsDone a n (without m cache.0) ⊎ IsFault m cache.0 a n rises
by_outcome m f cache c there free h (Ok r) n rises o = inl (is_done (without m cache.0) (Ok r) n (sym (destroyed m cache.0 c there free) ∙ o))
by_outcome m f cache c there free h (Err (troubles.Refused r)) n rises o = inl (is_done (without m cache.0) (Err (troubles.Refused r)) n (sym (destroyed m cache.0 c there free) ∙ o))
by_outcome m f cache c there free h (Err (troubles.Mapper (faults.Page p))) n rises o = inr (record { at = faults.Page p; is = refl; same = o.0; failed = o.1; named = o.2.0 })
by_outcome m f cache c there free h (Err (troubles.Mapper (faults.Save done))) n rises o = inr (record { at = faults.Save done; is = refl; same = o.0; failed = o.1; named = o.2.0 })
by_outcome m f cache c there free h (Err (troubles.Mapper at)) n rises o = absurd o.2
by_outcome m f cache c there free h (Err troubles.Memory) n rises o = absurd o.1

-- with what the segments hold, and without
pub destroy_answered : (told : Option Segments) (m : Machine) (f : Option PageForest) (cache : CacheId) (c : Cache) → cache_of m cache.0 ≡ Some c → is_mapped m cache.0 ≡ false → (a : Answer) (n : Machine) (rises : MapperCounts)
    → OutcomeAt told m f (commands.Destroy cache) a n rises → IsDone a n (without m cache.0) ⊎ IsFault m cache.0 a n rises
destroy_answered (Some h) m f cache c there free a n rises o = by_outcome m f cache c there free h a n rises o
destroy_answered None m f cache c there free a n rises o =
    let w : Machine = o.whole in
    let d = whole_cache m w o.is cache.0 c there in
    elim (by_outcome w f cache d.0 d.1 (ap (λ (x : Machine). is_mapped x cache.0) (sym o.is) ∙ free) o.segments o.whole_answer o.whole_next rises o.outcome) [
      | inl g ↦ inl (record {
        done = still_done o.whole_answer a g.done o.alike;
        next = o.is_next ∙ ap blank g.next ∙ blank_without w cache.0 ∙ ap (λ (x : Machine). without x cache.0) (sym o.is);
      })
      | inr g ↦ inr (record {
        at = g.at;
        is = still_err (troubles.Mapper g.at) o.whole_answer a g.is o.alike;
        same = o.is_next ∙ ap blank g.same ∙ sym o.is;
        failed = g.failed;
        named = subst (λ (x : Machine). IsNamed x cache.0) (sym o.is) (named_blank w cache.0 g.named);
      })
    ]

-- A temporary cache that no region maps is gone after a destroy of it.
pub destroy_done : (told : Option Segments) (m : Machine) (f : Option PageForest) (cache : CacheId) (c : Cache) → cache_of m cache.0 ≡ Some c → c.segment ≡ None → is_mapped m cache.0 ≡ false → (a : Answer) (n : Machine) (rises : MapperCounts)
    → OutcomeAt told m f (commands.Destroy cache) a n rises → IsDone a n (without m cache.0)
destroy_done told m f cache c there none free a n rises o = elim (destroy_answered told m f cache c there free a n rises o) [
  | inl d ↦ d
  | inr g ↦ absurd (no_name m cache.0 (nameless m cache.0 c there none) g.named)
]
