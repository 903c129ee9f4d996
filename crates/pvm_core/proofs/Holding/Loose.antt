-- Frames of pages that aren't locked aren't pinned.
use Rattle.std.proofs.Common.{◌≡◌, ℕ, zero, suc, ◌+◌, ◌-◌, ◌<◌, ◌≤◌, Bool, true, false, List, length, Option, Some, refl, sym, ap, ◌∙◌, subst, arith}
use Rattle.std.specs.Prelude.{◌||◌, [], ◌∷◌, None, count_by, get_or, option_and_then, slice_get, unwrap_or}
use Rattle.std.specs.List.{list_any, range_with_len}
use Rattle.std.proofs.lemmas.List.Folds.{list_any_at}
use Rattle.std.proofs.lemmas.List.FromFn.{get_or-range_with_len, length-range_with_len}
use Rattle.vm_ids.specs.declared.command.Extent.{Extent}
use Rattle.vm_ids.specs.declared.node_name.NodeName.{NodeName}
use Rattle.vm_ids.specs.declared.node_name.NodeName.TheVariants.{Live, Working}
use Rattle.vm_ids.specs.declared.numbers.CacheId.{CacheId}
use Rattle.vm_ids.specs.declared.numbers.NodeId.{NodeId}
use Rattle.vm_ids.specs.declared.numbers.PageNo.{PageNo}
use Rattle.vm_ids.specs.Forest.Commands.{extent_names}
use Rattle.vm_ids.specs.Forest.NameLists.{◌∈◌}
use Rattle.vm_ids.proofs.Forest.Laws.Ranges.{ranges_hold_their_pages}
use Rattle.vm_ids.specs.Held.{Held}
use Rattle.vm_ids.proofs.Places.{count_cons}
use Rattle.frame_pool.specs.Pool.{is_pinned}
use Rattle.global_map.specs.Pairs.{node_of}
use Rattle.local_cache.specs.Arena.{Arena, Table, is_locked, locked_count, locked_pages, locks_of}
use Rattle.local_cache.specs.Reading.{name_of}
use Rattle.local_cache.specs.Sound.{IsSound}
use Rattle.residency.specs.declared.store.Store.{Store}
use Rattle.residency.specs.World.{world}
use Rattle.page_commands.specs.Steps.{IsUnpinned, IsWorkingUnpinned}
use Rattle.segment_ops.specs.Synced.{AreLoose}
use Rattle.vm_model.specs.Machine.{Actor}
use Rattle.vm_model.proofs.Parts.Lists.{sum_by_part}
use Rattle.pvm_core.specs.Locks.{AreHeld, any_locked}
use Rattle.pvm_core.proofs.Holding.Counted.{locked_some, some_locked}
use Rattle.pvm_core.proofs.Holding.Kept.{locked_in}

-- a page of a range is locked
pub any_at : (a : Arena) (e : Extent) (page : ℕ) → e.first.0 ≤ page → page < e.first.0 + e.pages → 0 < locks_of a e.cache.0 page → any_locked a e ≡ true
any_at a e page first low some =
    let i : ℕ = page - e.first.0 in
    let less : i < e.pages = omega (arith, first, low) in
    let there : i < length (range_with_len e.first.0 e.pages) = omega (arith, less, length-range_with_len e.first.0 e.pages) in
    let same : e.first.0 + i ≡ page = omega (arith, first) in
    let at = get_or-range_with_len e.first.0 e.pages i 0 less ∙ same in
    list_any_at (λ n. is_locked (locks_of a e.cache.0 n)) (range_with_len e.first.0 e.pages) i 0 there (ap (λ n. is_locked (locks_of a e.cache.0 n)) at ∙ some_locked (locks_of a e.cache.0 page) some)

none_from : (p : ℕ → Bool) (first n : ℕ) → ((k : ℕ) → first ≤ k → k < first + n → p k ≡ false) → list_any p (range_with_len first n) ≡ false
none_from p first zero none = refl
none_from p first (suc n) none = ap (λ b. b || list_any p (range_with_len (first + 1) n)) (none first (omega arith) (omega arith)) ∙ none_from p (first + 1) n (λ k low less. none k (omega (arith, low)) (omega (arith, less)))

-- none is
-- Where no page is locked, no region holds any.
none_among : (counts : List ℕ) → count_by is_locked counts ≡ 0 → (i : ℕ) → unwrap_or (slice_get counts i) 0 ≡ 0
none_among [] e i = refl
none_among (zero ∷ counts) e zero = refl
none_among (zero ∷ counts) e (suc i) = none_among counts (omega (arith, e, count_cons is_locked 0 counts)) i
none_among (suc k ∷ counts) e i = absurd (omega (arith, e, count_cons is_locked (suc k) counts))

none_at : (tables : List (Option Table)) → ((i : ℕ) (t : Option Table) → slice_get tables i ≡ Some t → locked_pages t ≡ 0) → (k : ℕ) → locked_pages (get_or tables k None) ≡ 0
none_at [] none k = refl
none_at (t ∷ tables) none zero = none 0 t refl
none_at (t ∷ tables) none (suc k) = none_at tables (λ i u is. none (suc i) u is) k

pub none_locked : (a : Arena) → locked_count a ≡ 0 → (cache page : ℕ) → locks_of a cache page ≡ 0
none_locked a e zero page = refl
none_locked a e (suc k) page = by_table (get_or a.caches k None) (none_at a.caches (λ i t is. (let part = sum_by_part locked_pages a.caches i t is in omega (arith, e, part))) k)
  where
    by_table : (o : Option Table) → locked_pages o ≡ 0 → unwrap_or (option_and_then (λ (t : Table). slice_get t.locks page) o) 0 ≡ 0
    by_table None none = refl
    by_table (Some t) none = none_among t.locks none page

pub any_none : (a : Arena) (e : Extent) → ((page : ℕ) → e.first.0 ≤ page → page < e.first.0 + e.pages → locks_of a e.cache.0 page ≡ 0) → any_locked a e ≡ false
any_none a e none = none_from (λ n. is_locked (locks_of a e.cache.0 n)) e.first.0 e.pages (λ k low less. ap is_locked (none k low less))

-- each page of a range of which none is locked
pub unlocked_page : (a : Arena) (e : Extent) → any_locked a e ≡ false → (page : ℕ) → e.first.0 ≤ page → page < e.first.0 + e.pages → is_locked (locks_of a e.cache.0 page) ≡ false
unlocked_page a e none page first low = go (is_locked (locks_of a e.cache.0 page)) refl
  where
    go : (b : Bool) → is_locked (locks_of a e.cache.0 page) ≡ b → is_locked (locks_of a e.cache.0 page) ≡ false
    go false is = is
    go true is = absurd (let both : true ≡ false = sym (any_at a e page first low (locked_some (locks_of a e.cache.0 page) is)) ∙ none in cc both)

module _ (a : Arena) (s : Store) (actors : List (Option Actor)) (held : AreHeld a s actors) where
  -- the name of a node in a pinned frame
  pinned_name : (f : ℕ) (n : NodeId) → is_pinned s.frames f ≡ true → node_of s.map f ≡ Some n → (cache : CacheId) × (page : PageNo) × (name_of a n ≡ Live cache page) × (is_locked (locks_of a cache.0 page.0) ≡ true)
  pinned_name f n pinned at =
      let l = locked_in a s.map f (sym (held.pinned f) ∙ pinned) in
      let same : l.node ≡ n = (let e : Some l.node ≡ Some n = sym l.here ∙ at in cc e) in
      (l.cache, l.page, ap (name_of a) (sym same) ∙ l.name, l.locked)

  pub working_unpinned : IsWorkingUnpinned s a
  working_unpinned k f n pinned at name =
      let p = pinned_name f n pinned at in
      let both : Working k ≡ Live p.0 p.1 = sym name ∙ p.2 in
      cc both

  pub unpinned_page : (cache : CacheId) (page : PageNo) → is_locked (locks_of a cache.0 page.0) ≡ false → IsUnpinned s a (Live cache page)
  unpinned_page cache page free f n pinned at name =
      let p = pinned_name f n pinned at in
      let both : Live cache page ≡ Live p.0 p.1 = sym name ∙ p.2 in
      let one : cache ≡ p.0 = cc both in
      let two : page ≡ p.1 = cc both in
      let locked : true ≡ false = sym p.3 ∙ (λ i. is_locked (locks_of a (sym one i).0 (sym two i).0)) ∙ free in
      cc locked

  -- the pages of a range of which none is locked
  pub unpinned_names : (e : Extent) → any_locked a e ≡ false → (x : NodeName) → x ∈ extent_names e → IsUnpinned s a x
  unpinned_names e none x i =
      let at = (ranges_hold_their_pages e.cache e.first.0 e.pages x).0 i in
      subst (IsUnpinned s a) (sym at.2) (unpinned_page e.cache (record { 0 = e.first.0 + at.0 }) (unlocked_page a e none (e.first.0 + at.0) (omega arith) (let low = at.1 in omega (arith, low))))

  pub loose_range : (h : Option Held) (size : Option ℕ) → IsSound a → (e : Extent) → any_locked a e ≡ false → AreLoose e (world h size a s)
  loose_range h size sound e none page n f of at here = go (is_pinned s.frames f) refl
    where
      go : (b : Bool) → is_pinned s.frames f ≡ b → is_pinned s.frames f ≡ false
      go false is = is
      go true is = absurd (unpinned_page e.cache (record { 0 = page }) (unlocked_page a e none page of.0 of.1) f n is here (sound.kept.listed.nodes e.cache.0 page n at).1)
