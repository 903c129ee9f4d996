-- The rows of the calls with an extent.
use Rattle.std.proofs.Common.{◌≡◌, ℕ, ◌+◌, ◌≤◌, Bool, true, false, cond, List, length, Option, Some, None, refl, sym, ap, ◌∙◌, arith}
use Rattle.std.specs.Prelude.{is_none, nat_lt, option_map}
use Rattle.std.proofs.lemmas.Bool.Decides.{nat_tests}
use Rattle.vm_ids.specs.declared.command.Extent.{Extent}
use Rattle.vm_ids.specs.declared.numbers.SegId.{SegId}
use Rattle.vm_ids.specs.declared.refusal.Refusal.{Refusal}
use Rattle.vm_ids.specs.declared.refusal.Refusal.TheVariants as refusals
use Rattle.vm_ids.specs.declared.reply.Reply.TheVariants as replies
use Rattle.local_cache.specs.Arena.{Arena, Table, locks_of, table_of}
use Rattle.vm_model.specs.Answering.{flush_of, held_part, invalidate_of, is_any_locked, put_cache, put_pages, refuse, reply, sync_of, unless, with_some}
use Rattle.vm_model.specs.Machine.{Cache, Machine, Page, cache_of}
use Rattle.vm_model.specs.PageForest.{PageForest}
use Rattle.pvm_core.specs.Extents.{extent_refusal}
use Rattle.pvm_core.specs.Locks.{any_locked, locks_over}
use Rattle.pvm_core.specs.Manager.{Manager, cache_shown, machine_by}
use Rattle.pvm_core.proofs.Holding.Counted.{any_same}
use Rattle.pvm_core.proofs.Meaning.Shown.{length-pages, numbered-caches}

-- the pages are those of a live cache that this segment names
pub record IsExtent (a : Arena) (e : Extent) : Type 0 where
  pub table : Table
  pub there : table_of a e.cache.0 ≡ Some table
  pub segment : SegId
  pub of : table.segment ≡ Some segment
  pub ends : e.first.0 + e.pages ≤ length table.pages

pub extent_by : (a b : Arena) (e : Extent) → b.caches ≡ a.caches → IsExtent a e → IsExtent b e
extent_by a b e same x = record { table = x.table; there = ap (λ ts. Rattle.local_cache.specs.Arena.table_at ts e.cache.0) same ∙ x.there; segment = x.segment; of = x.of; ends = x.ends }

not_past : (a b : ℕ) → nat_lt a b ≡ false → b ≤ a
not_past a b e = grind (arith, nat_tests)

-- where nothing refuses them
pub extent_open : (a : Arena) (e : Extent) (l : Bool) → extent_refusal (table_of a e.cache.0) l e ≡ None → IsExtent a e
extent_open a e l none = of_table (table_of a e.cache.0) refl none
  where
    of_end : (t : Table) (s : SegId) → table_of a e.cache.0 ≡ Some t → t.segment ≡ Some s → (b : Bool) → nat_lt (length t.pages) (e.first.0 + e.pages) ≡ b → cond b (Some refusals.OutOfCache) (cond l (Some refusals.Locked) None) ≡ None → IsExtent a e
    of_end t s there of true past none = absurd (cc none)
    of_end t s there of false past none = record { table = t; there = there; segment = s; of = of; ends = not_past (length t.pages) (e.first.0 + e.pages) past }

    of_segment : (t : Table) → table_of a e.cache.0 ≡ Some t → (o : Option SegId) → t.segment ≡ o → cond (is_none o) (Some refusals.NotNamed) (cond (nat_lt (length t.pages) (e.first.0 + e.pages)) (Some refusals.OutOfCache) (cond l (Some refusals.Locked) None)) ≡ None → IsExtent a e
    of_segment t there None of none = absurd (cc none)
    of_segment t there (Some s) of none = of_end t s there of (nat_lt (length t.pages) (e.first.0 + e.pages)) refl none

    of_table : (o : Option Table) → table_of a e.cache.0 ≡ o → extent_refusal o l e ≡ None → IsExtent a e
    of_table None there none = absurd (cc none)
    of_table (Some t) there none = of_segment t there t.segment refl none

-- none of them is locked that may not be
pub extent_unlocked : (o : Option Table) (e : Extent) (l : Bool) → extent_refusal o l e ≡ None → l ≡ false
extent_unlocked None e l none = absurd (cc none)
extent_unlocked (Some t) e l none = go (is_none t.segment) (nat_lt (length t.pages) (e.first.0 + e.pages)) l none
  where
    go : (a b l : Bool) → cond a (Some refusals.NotNamed) (cond b (Some refusals.OutOfCache) (cond l (Some refusals.Locked) None)) ≡ None → l ≡ false
    go true b l none = absurd (cc none)
    go false true l none = absurd (cc none)
    go false false true none = absurd (cc none)
    go false false false none = refl

module _ (p : Manager) (f : PageForest) (e : Extent) where
  abbrev m : Machine
  m = machine_by p f

  cache_is : cache_of (machine_by p f) e.cache.0 ≡ option_map (cache_shown f e.cache.0) (table_of p.caches e.cache.0)
  cache_is = numbered-caches f p.caches.caches e.cache.0

  -- Refused

  module _ (held : Option (List Page)) (r : Refusal) where
    sync_none : cache_of (machine_by p f) e.cache.0 ≡ None → Some refusals.NoCache ≡ Some r → (sync_of m e ≡ refuse m r) × (flush_of m e ≡ refuse m r) × (invalidate_of m e held ≡ refuse m r)
    unfolding sync_of flush_of invalidate_of with_some
    sync_none none is = (let same : refusals.NoCache ≡ r = cc is in rw (none, sym same) (refl, refl, refl))

    unnamed : (c : Cache) → cache_of (machine_by p f) e.cache.0 ≡ Some c → c.segment ≡ None → Some refusals.NotNamed ≡ Some r → (sync_of m e ≡ refuse m r) × (flush_of m e ≡ refuse m r) × (invalidate_of m e held ≡ refuse m r)
    unfolding sync_of flush_of invalidate_of with_some
    unnamed c there none is = (let same : refusals.NotNamed ≡ r = cc is in rw (there, none, sym same) (refl, refl, refl))

    past_end : (c : Cache) (s : ℕ) → cache_of (machine_by p f) e.cache.0 ≡ Some c → c.segment ≡ Some s → nat_lt (length c.pages) (e.first.0 + e.pages) ≡ true → Some refusals.OutOfCache ≡ Some r → (sync_of m e ≡ refuse m r) × (flush_of m e ≡ refuse m r) × (invalidate_of m e held ≡ refuse m r)
    unfolding sync_of flush_of invalidate_of with_some unless
    past_end c s there named past is = (let same : refusals.OutOfCache ≡ r = cc is in rw (there, named, past, sym same) (refl, refl, refl))

    one_locked : (c : Cache) (s : ℕ) → cache_of (machine_by p f) e.cache.0 ≡ Some c → c.segment ≡ Some s → nat_lt (length c.pages) (e.first.0 + e.pages) ≡ false → is_any_locked (machine_by p f) e.cache e.first.0 e.pages ≡ true → Some refusals.Locked ≡ Some r
        → (flush_of m e ≡ refuse m r) × (invalidate_of m e held ≡ refuse m r)
    unfolding flush_of invalidate_of with_some unless
    one_locked c s there named inside locked is = (let same : refusals.Locked ≡ r = cc is in rw (there, named, inside, locked, sym same) (refl, refl))

    -- a sync where locked pages are no matter, and the others where they are
    abbrev AreRefused : Bool → Type 0
    AreRefused l = (l ≡ false → sync_of m e ≡ refuse m r) × (is_any_locked (machine_by p f) e.cache e.first.0 e.pages ≡ l → (flush_of m e ≡ refuse m r) × (invalidate_of m e held ≡ refuse m r))

    all_refused : (l : Bool) → (sync_of m e ≡ refuse m r) × (flush_of m e ≡ refuse m r) × (invalidate_of m e held ≡ refuse m r) → AreRefused l
    all_refused l t = (λ free. t.0, λ same. (t.1, t.2))

    extent_refused : (l : Bool) → extent_refusal (table_of p.caches e.cache.0) l e ≡ Some r → AreRefused l
    extent_refused l is = of_table (table_of p.caches e.cache.0) refl is
      where
        shown : (t : Table) → table_of p.caches e.cache.0 ≡ Some t → cache_of (machine_by p f) e.cache.0 ≡ Some (cache_shown f e.cache.0 t)
        shown t there = cache_is ∙ ap (option_map (cache_shown f e.cache.0)) there

        ends : (t : Table) (b : Bool) → nat_lt (length t.pages) (e.first.0 + e.pages) ≡ b → nat_lt (length (cache_shown f e.cache.0 t).pages) (e.first.0 + e.pages) ≡ b
        ends t b past = ap (λ (k : ℕ). nat_lt k (e.first.0 + e.pages)) (length-pages f e.cache.0 0 (length t.pages)) ∙ past

        of_end : (t : Table) (s : SegId) → table_of p.caches e.cache.0 ≡ Some t → t.segment ≡ Some s → (b k : Bool) → l ≡ k → nat_lt (length t.pages) (e.first.0 + e.pages) ≡ b → cond b (Some refusals.OutOfCache) (cond k (Some refusals.Locked) None) ≡ Some r → AreRefused l
        of_end t s there of true k at past is = all_refused l (past_end (cache_shown f e.cache.0 t) s.0 (shown t there) (ap (option_map (λ (s : SegId). s.0)) of) (ends t true past) is)
        of_end t s there of false true at past is = (
          λ free. absurd (let both : true ≡ false = sym at ∙ free in cc both),
          λ same. one_locked (cache_shown f e.cache.0 t) s.0 (shown t there) (ap (option_map (λ (s : SegId). s.0)) of) (ends t false past) (same ∙ at) is,
        )
        of_end t s there of false false at past is = absurd (cc is)

        of_segment : (t : Table) → table_of p.caches e.cache.0 ≡ Some t → (o : Option SegId) → t.segment ≡ o → cond (is_none o) (Some refusals.NotNamed) (cond (nat_lt (length t.pages) (e.first.0 + e.pages)) (Some refusals.OutOfCache) (cond l (Some refusals.Locked) None)) ≡ Some r
            → AreRefused l
        of_segment t there None of is = all_refused l (unnamed (cache_shown f e.cache.0 t) (shown t there) (ap (option_map (λ (s : SegId). s.0)) of) is)
        of_segment t there (Some s) of is = of_end t s there of (nat_lt (length t.pages) (e.first.0 + e.pages)) l refl refl is

        of_table : (o : Option Table) → table_of p.caches e.cache.0 ≡ o → extent_refusal o l e ≡ Some r → AreRefused l
        of_table None there is = all_refused l (sync_none (cache_is ∙ ap (option_map (cache_shown f e.cache.0)) there) is)
        of_table (Some t) there is = of_segment t there t.segment refl is

  pub sync_refused : (r : Refusal) → extent_refusal (table_of p.caches e.cache.0) false e ≡ Some r → sync_of (machine_by p f) e ≡ refuse (machine_by p f) r
  sync_refused r is = (extent_refused None r false is).0 refl

  module _ (counted : (cache page : ℕ) → locks_of p.caches cache page ≡ locks_over p.actors cache page) (r : Refusal) (is : extent_refusal (table_of p.caches e.cache.0) (any_locked p.caches e) e ≡ Some r) where
    pub flush_refused : flush_of (machine_by p f) e ≡ refuse (machine_by p f) r
    flush_refused = ((extent_refused None r (any_locked p.caches e) is).1 (any_same p f counted e)).0

    pub invalidate_refused : (held : Option (List Page)) → invalidate_of (machine_by p f) e held ≡ refuse (machine_by p f) r
    invalidate_refused held = ((extent_refused held r (any_locked p.caches e) is).1 (any_same p f counted e)).1

  -- Not refused

  module _ (x : IsExtent p.caches e) where
    abbrev c : Cache
    c = cache_shown f e.cache.0 x.table

    pub cache_there : cache_of (machine_by p f) e.cache.0 ≡ Some (cache_shown f e.cache.0 x.table)
    cache_there = cache_is ∙ ap (option_map (cache_shown f e.cache.0)) x.there

    named : (cache_shown f e.cache.0 x.table).segment ≡ Some x.segment.0
    named = ap (option_map (λ (s : SegId). s.0)) x.of

    not_less : (a b : ℕ) → b ≤ a → nat_lt a b ≡ false
    not_less a b e = grind (arith, nat_tests)

    inside : nat_lt (length (cache_shown f e.cache.0 x.table).pages) (e.first.0 + e.pages) ≡ false
    inside = not_less (length (cache_shown f e.cache.0 x.table).pages) (e.first.0 + e.pages) (omega (arith, x.ends, length-pages f e.cache.0 0 (length x.table.pages)))

    pub sync_row : sync_of (machine_by p f) e ≡ reply replies.Done (machine_by p f)
    unfolding sync_of with_some unless
    sync_row = (let a = cache_there in let b = named in let d = inside in rw (a, b, d) refl)

    module _ (unlocked : is_any_locked (machine_by p f) e.cache e.first.0 e.pages ≡ false) where
      pub flush_row : flush_of (machine_by p f) e ≡ reply replies.Done (machine_by p f)
      unfolding flush_of with_some unless
      flush_row = (let a = cache_there in let b = named in let d = inside in rw (a, b, d, unlocked) refl)

      pub invalidate_row : (held : Option (List Page)) → invalidate_of (machine_by p f) e held
          ≡ reply replies.Done (put_cache (machine_by p f) e.cache.0 (put_pages e.first.0 (held_part held e.first.0 e.pages) (cache_shown f e.cache.0 x.table)))
      unfolding invalidate_of with_some unless
      invalidate_row held = (let a = cache_there in let b = named in let d = inside in rw (a, b, d, unlocked) refl)
