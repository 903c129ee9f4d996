-- The cache of a segment is made: the manager after it.
use Rattle.std.proofs.Common.{◌≡◌, ◌⊎◌, ℕ, zero, suc, ◌+◌, ◌*◌, ◌≤◌, List, [], ◌∷◌, ◌++◌, length, get_or, map, Option, Some, None, refl, sym, ap, ◌∙◌, subst, arith, inl, inr}
use Rattle.std.specs.Prelude.{IfSome, IsSomeAnd, option_map, sum_by}
use Rattle.std.specs.FinMap.{get}
use Rattle.std.specs.List.{All}
use Rattle.std.proofs.lemmas.List.{length-map}
use Rattle.std.proofs.lemmas.List.Sums.{sum_by_push}
use Rattle.vm_ids.specs.Held.{Held}
use Rattle.vm_ids.specs.declared.numbers.CacheId.{CacheId}
use Rattle.vm_ids.specs.declared.numbers.NodeId.{NodeId}
use Rattle.vm_ids.specs.declared.numbers.SegId.{SegId}
use Rattle.vm_ids.specs.Forest.Commands.{make}
use Rattle.vm_ids.specs.Forest.Shape.{IsBounded}
use Rattle.vm_ids.proofs.Forest.Laws.Copying.{make_keeps_bound}
use Rattle.local_cache.specs.declared.own_state.OwnState.TheVariants.{OnSegment}
use Rattle.local_cache.specs.Arena.{Arena, CellsStay, IsMade, Table, entry_for, new_table, page_count, table_at}
use Rattle.local_cache.specs.Reading as arena
use Rattle.local_cache.specs.Sound as arena_sound
use Rattle.local_cache.specs.Whole.{segment_of, size_of}
use Rattle.local_cache.proofs.NewCache.Whole.{fresh, pages_with, whole_begun}
use Rattle.local_cache.proofs.Nodes.Count.{forest_len}
use Rattle.residency.specs.declared.store.Store.{Store}
use Rattle.vm_model.specs.declared.limits.TheConstants.{LIVE_PAGES}
use Rattle.contexts.specs.Actors.{Actors}
use Rattle.contexts.specs.Placed.{AreRight}
use Rattle.contexts.proofs.Placing.{right_weaker}
use Rattle.pvm_core.specs.Manager.{AreFull, AreSized, IsManagerSound, live_in}
use Rattle.pvm_core.specs.Opening.{ArePagesOf, HasSegment, IsOpened}
use Rattle.pvm_core.proofs.NewCaches.Begun.{size_more}
use Rattle.pvm_core.proofs.Holding.Made.{held_made}
use Rattle.pvm_core.proofs.Meaning.Live.{nodes_most}

abbrev segment : Option Table → Option (Option SegId)
segment o = option_map (λ (t : Table). t.segment) o

-- a cache of a segment was there, or is the one that came
get_cases : (ts : List (Option Table)) (t : Table) (k : ℕ) (s : SegId) → segment (get_or (ts ++ Some t ∷ []) k None) ≡ Some (Some s) → (segment (get_or ts k None) ≡ Some (Some s)) ⊎ ((k ≡ length ts) × (t.segment ≡ Some s))
get_cases [] t zero s e = inr (refl, cc e)
get_cases [] t (suc k) s e = absurd (cc e)
get_cases (x ∷ ts) t zero s e = inl e
get_cases (x ∷ ts) t (suc k) s e = elim (get_cases ts t k s e) [ inl q ↦ inl q | inr q ↦ inr (ap suc q.0, q.1) ]

table_cases : (ts : List (Option Table)) (t : Table) (c : ℕ) (s : SegId) → segment (table_at (ts ++ Some t ∷ []) c) ≡ Some (Some s) → (segment (table_at ts c) ≡ Some (Some s)) ⊎ ((c ≡ suc (length ts)) × (t.segment ≡ Some s))
table_cases ts t zero s e = absurd (cc e)
table_cases ts t (suc k) s e = elim (get_cases ts t k s e) [ inl q ↦ inl q | inr q ↦ inr (ap suc q.0, q.1) ]

at_end : (ts : List (Option Table)) (t : Table) → get_or (ts ++ Some t ∷ []) (length ts) None ≡ Some t
at_end [] t = refl
at_end (x ∷ ts) t = at_end ts t

some_size : (o : Option Table) (s : SegId) → segment o ≡ Some (Some s) → (n : ℕ) × (option_map (λ (t : Table). length t.pages) o ≡ Some n)
some_size None s e = absurd (cc e)
some_size (Some t) s e = (length t.pages, refl)

module _ (b d : Arena) (u : Store) (t : Actors) (live n : ℕ) (cache : CacheId) (seg : SegId) (nodes : List NodeId) (size : length nodes ≡ n) (made : IsMade b d cache (Some seg) OnSegment nodes) (forest : arena.forest_of d ≡ make (pages_with OnSegment cache n) (arena.forest_of b)) (sound : arena_sound.IsSound d) (stays : CellsStay b d)
    (i : IsManagerSound b u t live) (free : IsOpened b seg → ⊥) (few : live + n ≤ LIVE_PAGES) (slots : 2 * (live + n) ≤ length u.slots) where
  -- a cache of a segment is the one that was made, or was there
  cases : (c : ℕ) (s : SegId) → segment_of d c ≡ Some (Some s) → (segment_of b c ≡ Some (Some s)) ⊎ ((c ≡ cache.0) × (s ≡ seg))
  cases c s e = elim (table_cases b.caches (new_table (Some seg) nodes) c s (ap (λ (ts : List (Option Table)). option_map (λ (t : Table). t.segment) (table_at ts c)) (sym made.caches) ∙ e)) [
    | inl q ↦ inl q
    | inr q ↦ inr (omega (arith, q.0, made.number), (let same : seg ≡ s = cc q.1 in sym same))
  ]

  apart : (one two : ℕ) (s : SegId) → (segment_of b one ≡ Some (Some s)) ⊎ ((one ≡ cache.0) × (s ≡ seg)) → (segment_of b two ≡ Some (Some s)) ⊎ ((two ≡ cache.0) × (s ≡ seg)) → one ≡ two
  apart one two s (inl e) (inl q) = i.apart one two s e q
  apart one two s (inr e) (inr q) = e.0 ∙ sym q.0
  apart one two s (inl e) (inr q) = absurd (free (one, e ∙ ap (λ (s : SegId). Some (Some s)) q.1))
  apart one two s (inr e) (inl q) = absurd (free (two, q ∙ ap (λ (s : SegId). Some (Some s)) e.1))

  size_now : (c : ℕ) → size_of d c ≡ option_map (λ (t : Table). length t.pages) (table_at (b.caches ++ Some (new_table (Some seg) nodes) ∷ []) c)
  size_now c = ap (λ (ts : List (Option Table)). option_map (λ (t : Table). length t.pages) (table_at ts c)) made.caches

  pub size_new : size_of d cache.0 ≡ Some n
  size_new =
      let number : cache.0 ≡ suc (length b.caches) = omega (arith, made.number) in
      size_now cache.0 ∙ ap (λ (c : ℕ). option_map (λ (t : Table). length t.pages) (table_at (b.caches ++ Some (new_table (Some seg) nodes) ∷ []) c)) number
      ∙ ap (option_map (λ (t : Table). length t.pages)) (at_end b.caches (new_table (Some seg) nodes)) ∙ ap Some (length-map nodes entry_for ∙ size)

  pub opened_sound : IsManagerSound d u t (live + n)
  opened_sound =
      let count : _ = omega (arith, forest_len b, nodes_most i, few) in
      record {
        nodes = whole_begun b d i.nodes cache n (Some seg) OnSegment nodes size made forest sound count;
        apart = λ one two s e q. apart one two s (cases one s e) (cases two s q);
        bounded = subst IsBounded (sym forest) (make_keeps_bound (pages_with OnSegment cache n) (arena.forest_of b) (fresh b d i.nodes cache n (Some seg) OnSegment nodes size made forest sound count) i.bounded);
        slots = slots;
        counted = (
            let total : live_in d ≡ live_in b + length (map entry_for nodes) = ap (sum_by page_count) made.caches ∙ sum_by_push page_count b.caches (Some (new_table (Some seg) nodes)) in
            omega (arith, total, i.counted, length-map nodes entry_for, size));
        few = few;
        loose = i.loose;
        locked = held_made b d u t.actors cache (Some seg) OnSegment nodes made stays i.nodes.sound.kept.listed sound.kept.listed i.locked;
        actors = subst (λ (ts : List (Option Table)). AreRight (λ k. option_map (λ (t : Table). length t.pages) (table_at ts k)) t) (sym made.caches)
            (right_weaker (size_of b) (λ k. option_map (λ (t : Table). length t.pages) (table_at (b.caches ++ Some (new_table (Some seg) nodes) ∷ []) k)) t (size_more b.caches (Some (new_table (Some seg) nodes))) i.actors);
        page = i.page;
      }

  -- where the mapper tells it, the segment is as long, and its pages have all their bytes
  pub opened_sized : (h : Option Held) → HasSegment h seg t.page_bytes n → AreSized b h → AreSized d h
  opened_sized None has sized c s e = tt
  opened_sized (Some h) has sized c s e = elim (cases c s e) [
    | inl was ↦ (
        let long = some_size (table_at b.caches c) s was in
        sized c s was ∙ long.1 ∙ sym (size_now c ∙ size_more b.caches (Some (new_table (Some seg) nodes)) c long.0 long.1))
    | inr new ↦ ap (λ (s : SegId). option_map (λ (ps : List (List ℕ)). length ps) (get h.segments s.0)) new.1 ∙ counted (get h.segments seg.0) has ∙ sym (ap (size_of d) new.0 ∙ size_new)
  ]
    where
      counted : (o : Option (List (List ℕ))) → IsSomeAnd o (ArePagesOf t.page_bytes n) → option_map (λ (ps : List (List ℕ)). length ps) o ≡ Some n
      counted None has = absurd has
      counted (Some ps) has = ap Some has.count

  pub opened_full : (h : Option Held) → HasSegment h seg t.page_bytes n → AreFull b t.page_bytes h → AreFull d t.page_bytes h
  opened_full None has full c s e = tt
  opened_full (Some h) has full c s e = elim (cases c s e) [
    | inl was ↦ full c s was
    | inr new ↦ subst (λ (s : SegId). IfSome (get h.segments s.0) (All (λ (page : List ℕ). length page ≡ t.page_bytes))) (sym new.1) (whole (get h.segments seg.0) has)
  ]
    where
      whole : (o : Option (List (List ℕ))) → IsSomeAnd o (ArePagesOf t.page_bytes n) → IfSome o (All (λ (page : List ℕ). length page ≡ t.page_bytes))
      whole None has = tt
      whole (Some ps) has = has.whole
