-- Pages that are to go were pushed to their segment, and their heirs got them.
use Rattle.std.proofs.Common.{◌≡◌, ℕ, ◌+◌, ◌<◌, true, false, List, length, Option, Some, None, is_some, refl, sym, ap, ◌∙◌, subst, arith}
use Rattle.std.specs.Prelude.{IsSome, option_and_then, option_map, slice_get}
use Rattle.vm_ids.specs.Held.{Held, Segments, segments_of}
use Rattle.vm_ids.specs.declared.command.Extent.{Extent}
use Rattle.vm_ids.specs.declared.numbers.SegId.{SegId}
use Rattle.vm_ids.specs.declared.reply.Trouble.{Trouble}
use Rattle.vm_ids.specs.Forest.Commands.{extent_names}
use Rattle.vm_ids.specs.Forest.Saving.{saves, unsaved}
use Rattle.local_cache.specs.Arena.{Table, table_of}
use Rattle.local_cache.specs.Arena.{Arena}
use Rattle.segment_ops.specs.Ranges.{HasRange}
use Rattle.vm_model.specs.Machine.{Cache, segment_of}
use Rattle.vm_model.specs.PageForest.{PageForest, page_in}
use Rattle.vm_model.specs.Pushing.{PushRule, page_named}
use Rattle.vm_model.specs.Synchronised.{ArePushed}
use Rattle.pvm_core.specs.Manager.{AreApart, Manager, cache_shown, forest_of, machine_by, machine_of}
use Rattle.pvm_core.specs.Saving.{IsNotSaved, IsNotWrittenBack, IsPushed, IsWrittenBack, KeepsForest, is_named}
use Rattle.pvm_core.proofs.Extents.Rows.{IsExtent}
use Rattle.pvm_core.proofs.Extents.Stays.{pushed_stay}
use Rattle.pvm_core.proofs.Homes.Named.{cache_of_segment, machine_segment}
use Rattle.pvm_core.proofs.Readiness.Readying.{failed_save}
use Rattle.pvm_core.proofs.Readiness.Saved.{none_saved}
use Rattle.pvm_core.proofs.Meaning.Shown.{numbered-caches}
use Rattle.pvm_core.proofs.Meaning.Values.{page_shown}

-- a range in a cache that a segment names
pub extent_named : (a : Arena) (e : Extent) → HasRange a e → is_named a e.cache.0 ≡ true → IsExtent a e
extent_named a e range named = of_table (table_of a e.cache.0) refl range.size named
  where
    of_segment : (t : Table) → table_of a e.cache.0 ≡ Some t → length t.pages ≡ range.pages → (o : Option SegId) → t.segment ≡ o → is_some o ≡ true → IsExtent a e
    of_segment t there long None of named = absurd (cc named)
    of_segment t there long (Some s) of named = record { table = t; there = there; segment = s; of = of; ends = omega (arith, long, range.within) }

    of_table : (o : Option Table) → table_of a e.cache.0 ≡ o → option_map (λ (t : Table). length t.pages) o ≡ Some range.pages → is_some (option_and_then (λ (t : Table). t.segment) o) ≡ true → IsExtent a e
    of_table None there size named = absurd (cc named)
    of_table (Some t) there size named = of_segment t there (cc size) t.segment refl named

-- Where no segment names the cache

no_segment : (f : PageForest) (n : ℕ) (o : Option Table) → is_some (option_and_then (λ (t : Table). t.segment) o) ≡ false → option_and_then (λ (c : Cache). c.segment) (option_map (cache_shown f n) o) ≡ None
no_segment f n None none = refl
no_segment f n (Some t) none = go t.segment none
  where
    go : (o : Option SegId) → is_some o ≡ false → option_map (λ (s : SegId). s.0) o ≡ None
    go None none = refl
    go (Some s) none = absurd (cc none)

pub unnamed_pushed : (p : Manager) (f : PageForest) (n first past : ℕ) → is_named p.caches n ≡ false → (s : Option Segments) → ArePushed (machine_by p f) s n first past
unnamed_pushed p f n first past none None = tt
unnamed_pushed p f n first past none (Some s) = λ seg page named from below. absurd (
    let e : Some seg ≡ None = sym named ∙ ap (option_and_then (λ (c : Cache). c.segment)) (numbered-caches f p.caches.caches n) ∙ no_segment f n (table_of p.caches n) none in cc e)

pub unnamed_written : (p : Manager) (h : Option Held) (e : Extent) → is_named p.caches e.cache.0 ≡ false → IsWrittenBack e p p h h
unnamed_written p h e none = record {
  forest = sym (none_saved (is_named p.caches e.cache.0) (extent_names e) (forest_of p h) none);
  pushed = unnamed_pushed p (forest_of p h) e.cache.0 e.first.0 (e.first.0 + e.pages) none (segments_of h);
  saved_now = λ named x i. absurd (let both : true ≡ false = sym named ∙ none in cc both);
}

-- Where one does

module _ (p : Manager) (h : Option Held) (e : Extent) (x : IsExtent p.caches e) (apart : AreApart p.caches) where
  -- what is pushed to the segment is a page of the cache
  found : (seg page : ℕ) → segment_of (machine_of p h) e.cache.0 ≡ Some seg → page_named (machine_of p h) seg page ≡ page_in (machine_of p h) e.cache.0 page
  found seg page named =
      let two : Some x.segment.0 ≡ Some seg = sym (machine_segment p apart (forest_of p h) e.cache.0 x.table x.there x.segment x.of) ∙ named in
      let same : x.segment.0 ≡ seg = cc two in
      ap (λ (k : ℕ). page_named (machine_of p h) k page) (sym same)
      ∙ ap (option_and_then (λ (c : Cache). slice_get c.pages page)) (
      cache_of_segment p apart (forest_of p h) e.cache.0 x.table x.there x.segment x.of
      ∙ sym (numbered-caches (forest_of p h) p.caches.caches e.cache.0 ∙ ap (option_map (cache_shown (forest_of p h) e.cache.0)) x.there))

  there : (page : ℕ) → page < e.first.0 + e.pages → IsSome (page_in (machine_of p h) e.cache.0 page)
  there page less = subst IsSome (sym (page_shown (forest_of p h) p e.cache page x.table x.there (omega (arith, less, x.ends)))) refl

  -- what was pushed is there still when more was
  pub still_pushed : (g k : Option Held) (ps : List (ℕ × ℕ)) → PushRule (machine_of p h) (segments_of g) ps (segments_of k) → IsPushed e p h g → IsPushed e p h k
  still_pushed g k ps rule before = pushed_stay (machine_of p h) e.cache.0 found e.first.0 (e.first.0 + e.pages) there ps (segments_of g) (segments_of k) rule before

-- a save failed when all pages were pushed
pub unsaved_written : (e : Extent) (p q r : Manager) (h g k : Option Held) → is_named q.caches e.cache.0 ≡ is_named p.caches e.cache.0 → KeepsForest p q h g → IsPushed e p h k → (trouble : Trouble) → IsNotSaved e q g r k trouble → IsNotWrittenBack e p h r k trouble
unsaved_written e p q r h g k named kept pushed trouble out =
    let s = failed_save e q r g k trouble out in
    subst (IsNotWrittenBack e p h r k) (sym s.1) (
      record {
        named = sym named ∙ s.2.named;
        forest = s.2.forest ∙ ap (saves s.0 (extent_names e)) kept.forest;
        left = λ n less. subst (λ f. IsSome (unsaved (saves n (extent_names e) f) (extent_names e))) kept.forest (s.2.left n less);
        copies = s.2.copies ∙ ap (λ n. n + s.0) kept.copies;
      },
      pushed,
    )
