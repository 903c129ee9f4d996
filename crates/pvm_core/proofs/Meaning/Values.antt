-- What the values of a manager's forest are, and that they are the machine's pages.
use Rattle.std.proofs.Common.{◌≡◌, ◌≢◌, ◌⊎◌, ℕ, suc, false, ◌+◌, ◌<◌, ◌≤◌, List, [], ◌∷◌, length, get_or, replicate, Option, Some, None, is_some, unwrap_or, refl, sym, ap, ◌∙◌, subst, arith, inl, inr}
use Rattle.std.specs.Prelude.{option_map, option_and_then, slice_get, IfSome, IsSome}
use Rattle.std.specs.List.{All}
use Rattle.std.proofs.lemmas.Bool.{cases_lt}
use Rattle.std.proofs.lemmas.List.{length-replicate}
use Rattle.std.proofs.lemmas.Option.{get_or_from_slice_get, slice_get_past, slice_get_within}
use Rattle.vm_ids.specs.Held.{Held, slot_of}
use Rattle.vm_ids.specs.declared.node_name.NodeName.{NodeName}
use Rattle.vm_ids.specs.declared.node_name.NodeName.TheVariants.{Working}
use Rattle.vm_ids.specs.declared.numbers.CacheId.{CacheId}
use Rattle.vm_ids.specs.declared.numbers.NodeId.{NodeId}
use Rattle.vm_ids.specs.Forest.Commands.{page_name}
use Rattle.vm_ids.specs.Forest.NameMap.{contains_key, get}
use Rattle.vm_ids.specs.Forest.Nodes.{Forest, IsNode, childless, node}
use Rattle.vm_ids.specs.Forest.Nodes.Hang.{Root}
use Rattle.vm_ids.specs.Forest.PageMap.{map_pages, no_page}
use Rattle.vm_ids.specs.Forest.Reading.{owner_of, value_of}
use Rattle.vm_ids.specs.Forest.Shape.{IsConsistent, IsWellShaped}
use Rattle.vm_ids.proofs.Forest.BareShape.{IsNode-map}
use Rattle.vm_ids.proofs.Forest.Laws.Reading.{nodes_have_values, owners_own_themselves, owners_own_values}
use Rattle.vm_ids.proofs.Forest.PageMap.{value_of-map}
use Rattle.local_cache.specs.declared.own_state.OwnState.{OwnState}
use Rattle.local_cache.specs.declared.own_state.OwnState.TheVariants.{Absent, Zero, Resident, Slot, OnSegment}
use Rattle.local_cache.specs.Arena.{Arena, HasNode, Table, table_of}
use Rattle.local_cache.specs.Home.{home_of}
use Rattle.local_cache.specs.Own.{is_absent, own_of}
use Rattle.local_cache.specs.Reading as arena
use Rattle.local_cache.specs.Reading.{name_of}
use Rattle.local_cache.specs.ReadingBy.{forest_by}
use Rattle.local_cache.specs.Sound as arena_sound
use Rattle.local_cache.proofs.Forest.Reading.{IsNode-forest_of, get-forest_by_none, held_or_not}
use Rattle.local_cache.proofs.Forest.ReadingBy.{page-at}
use Rattle.residency.specs.StoreForest.{store_forest}
use Rattle.residency.specs.World.{World, frame_page, own_page, page_at, page_by, zero_page}
use Rattle.residency.proofs.Forests.WrittenForest.{store_made}
use Rattle.fault_path.proofs.Calls.Kept.{store_bare, store_page, store_shaped}
use Rattle.local_cache.specs.Whole.{IsWhole, size_of}
use Rattle.local_cache.proofs.Whole.LivePages.{no_node}
use Rattle.vm_model.specs.Machine.{Cache, Machine, Page, cache_of}
use Rattle.vm_model.specs.Outcome as outcome
use Rattle.vm_model.specs.Outcome.{HasWholePages, blank}
use Rattle.vm_model.specs.PageForest.{PageForest, page_in, told}
use Rattle.vm_model.specs.Laws.{IsFollowed}
use Rattle.vm_model.proofs.Machines.Sound.{numbered-all}
use Rattle.std.proofs.lemmas.List.Elements.{All-get_or}
use Rattle.pvm_core.specs.Manager.{Manager, cache_shown, forest_of, machine_by, machine_of, pages_shown, shown, world_of}
use Rattle.pvm_core.proofs.Meaning.Shown.{blank_shown, get-pages, id_of, length-pages, numbered-caches, whole_caches}

-- Values are own pages

node_at_none : {P : Type 0} (f : Forest P) (x : NodeName) → get f.nodes x ≡ None → node f x ≡ childless None Root
unfolding node
node_at_none f x e = ap (λ o. unwrap_or o (childless None Root)) e

module _ (w : World) (sound : arena_sound.IsSound w.caches) (P : Option (Option Page) → Type 0) (each : (n : NodeId) → P (own_page w n)) (none : P None) where
  -- what holds of each own page holds of each node's
  pub each_own : (x : NodeName) → P (node (store_forest w) x).own
  unfolding store_forest
  each_own x = at (held_or_not w.caches x)
    where
      at : ((n : NodeId) × HasNode w.caches n × (name_of w.caches n ≡ x)) ⊎ ((n : NodeId) → HasNode w.caches n → name_of w.caches n ≢ x) → P (node (forest_by (own_page w) w.caches) x).own
      at (inl f) = subst P (sym (page-at (own_page w) w.caches sound.kept.named f.0 f.1) ∙ ap (λ y. (node (forest_by (own_page w) w.caches) y).own) f.2) (each f.0)
      at (inr out) = subst P (sym (ap (λ k. k.own) (node_at_none (forest_by (own_page w) w.caches) x (get-forest_by_none w.caches (own_page w) x out)))) none

  -- and of each value
  pub each_value : IsWellShaped (arena.forest_of w.caches) → (x : NodeName) → P (value_of (store_forest w) x)
  each_value shaped x = at (value_of (store_forest w) x) refl
    where
      at : (o : Option (Option Page)) → value_of (store_forest w) x ≡ o → P (value_of (store_forest w) x)
      at None e = subst P (sym e) none
      at (Some v) e =
          let s = store_shaped w sound shaped in
          let is : IsNode (store_forest w) x = (nodes_have_values (store_forest w) s x).1 (ap is_some e) in
          subst P (owners_own_values (store_forest w) s x is) (each_own (owner_of (store_forest w) x))

untold_page : (w : World) → w.told ≡ None → (n : NodeId) → shown (own_page w n) ≡ []
untold_page w none n = subst (λ (t : Option Held). shown (page_by (option_map (λ _. zero_page w) t) (option_map (λ _. frame_page w n) t) (λ slot. option_and_then (λ h. slot_of h slot) t) (option_and_then (λ h. option_and_then (page_at h) (home_of w.caches n)) t) (own_of w.caches n)) ≡ []) (sym none) (go (own_of w.caches n))
  where
    go : (x : OwnState) → shown (page_by None None (λ slot. None) None x) ≡ []
    go Absent = refl
    go Zero = refl
    go (Resident d) = refl
    go (Slot s) = refl
    go OnSegment = refl

-- The forest of a manager

module _ (p : Manager) (h : Option Held) (nodes : IsWhole p.caches) where
  shaped_of : IsWellShaped (forest_of p h)
  shaped_of = store_shaped (world_of p h) nodes.sound nodes.consistent.shaped

  same_nodes : (x : NodeName) → contains_key (forest_of p h).nodes x ≡ contains_key (arena.forest_of p.caches).nodes x
  same_nodes x = sym (IsNode-map no_page (forest_of p h) x) ∙ ap (λ f. contains_key f.nodes x) (store_bare (world_of p h) nodes.sound) ∙ IsNode-map no_page (arena.forest_of p.caches) x

  made_of : (arena.forest_of p.caches).made ≡ p.caches.made
  unfolding arena.forest_of
  made_of = refl

  -- a node with an own page reads that
  pub own_value : (n : NodeId) → HasNode p.caches n → is_absent (own_of p.caches n) ≡ false → value_of (forest_of p h) (name_of p.caches n) ≡ own_page (world_of p h) n
  own_value n held own = by_page (own_page (world_of p h) n) refl (store_page (world_of p h) nodes.sound n held)
    where
      x : NodeName
      x = name_of p.caches n

      some : (s : OwnState) → is_absent s ≡ false → (a b : Option Page) (slot : ℕ → Option Page) (segment : Option Page) → page_by a b slot segment s ≡ None → ⊥
      some Absent e a b slot segment none = absurd (cc e)
      some Zero e a b slot segment none = cc none
      some (Resident d) e a b slot segment none = cc none
      some (Slot k) e a b slot segment none = cc none
      some OnSegment e a b slot segment none = cc none

      by_page : (o : Option (Option Page)) → own_page (world_of p h) n ≡ o → (node (forest_of p h) (name_of p.caches n)).own ≡ own_page (world_of p h) n → value_of (forest_of p h) (name_of p.caches n) ≡ own_page (world_of p h) n
      by_page None e at = absurd (some (own_of p.caches n) own _ _ _ _ e)
      by_page (Some v) e at =
          let is : IsNode (forest_of p h) (name_of p.caches n) = same_nodes (name_of p.caches n) ∙ IsNode-forest_of p.caches nodes.sound.kept.named n held in
          let itself : owner_of (forest_of p h) (name_of p.caches n) ≡ name_of p.caches n = owners_own_themselves (forest_of p h) shaped_of (name_of p.caches n) v (at ∙ e) in
          sym (owners_own_values (forest_of p h) shaped_of (name_of p.caches n) is) ∙ ap (λ y. (node (forest_of p h) y).own) itself ∙ at

  pub consistent_of : IsConsistent (forest_of p h)
  consistent_of = record {
    shaped = shaped_of;
    counted = λ k is. (let few = nodes.consistent.counted k (sym (same_nodes (Working k)) ∙ is) in omega (arith, few, made_of, store_made (world_of p h)));
  }

  -- each page of a live cache has a value
  pub value_there : (cache : CacheId) (page count : ℕ) → size_of p.caches cache.0 ≡ Some count → page < count → IsSome (value_of (forest_of p h) (page_name cache page))
  value_there cache page count size less = (nodes_have_values (forest_of p h) shaped_of (page_name cache page)).0 (same_nodes (page_name cache page) ∙ nodes.pages cache page count size less)

  -- and nothing else
  no_value : (cache : CacheId) (page : ℕ) → ((n : ℕ) → size_of p.caches cache.0 ≡ Some n → page < n → ⊥) → value_of (forest_of p h) (page_name cache page) ≡ None
  no_value cache page out = go (value_of (forest_of p h) (page_name cache page)) refl
    where
      go : (o : Option (Option Page)) → value_of (forest_of p h) (page_name cache page) ≡ o → o ≡ None
      go None e = refl
      go (Some v) e = absurd (no_node p.caches nodes.sound cache page out (sym (same_nodes (page_name cache page)) ∙ (nodes_have_values (forest_of p h) shaped_of (page_name cache page)).1 (ap is_some e)))

-- a mapper that tells nothing: no page of the machine has bytes
pub untold : (p : Manager) → IsWhole p.caches → (cache : CacheId) (page : ℕ) → shown (value_of (forest_of p None) (page_name cache page)) ≡ []
untold p nodes cache page = each_value (world_of p None) nodes.sound (λ o. shown o ≡ []) (untold_page (world_of p None) refl) refl nodes.consistent.shaped (page_name cache page)

-- The machine of a manager over a mapper that tells nothing is the blank one of that over any
-- mapper.
pub blank_of : (p : Manager) (f : PageForest) → IsWhole p.caches → machine_of p None ≡ blank (machine_by p f)
blank_of p f nodes = λ i. record (machine_of p None) { caches = sym (blank_shown f (forest_of p None) (untold p nodes) 1 p.caches.caches) i }

-- Zeros in place of pages whose bytes aren't told

abbrev pub zeros_by : ℕ → Option Page → Option Page
zeros_by b o = Some (replicate b 0)

abbrev pub zeroed : Manager → Option Held → PageForest
zeroed p h = map_pages (zeros_by p.page_bytes) (forest_of p h)

size_table : (a : Arena) (k : ℕ) (t : Table) → get_or a.caches k None ≡ Some t → size_of a (1 + k) ≡ Some (length t.pages)
size_table a k t e = ap (size_of a) (let s : 1 + k ≡ suc k = omega arith in s) ∙ ap (option_map (λ (t : Table). length t.pages)) e

pub zeroed_whole : (p : Manager) (h : Option Held) → IsWhole p.caches → HasWholePages (machine_by p (zeroed p h))
zeroed_whole p h nodes = whole_caches (zeroed p h) p.page_bytes 1 p.caches.caches (λ k t e i less.
    zeros (value_of (forest_of p h) (page_name (id_of (1 + k)) i)) (value_of-map (zeros_by p.page_bytes) (forest_of p h) (page_name (id_of (1 + k)) i)) (value_there p h nodes (id_of (1 + k)) i (length t.pages) (size_table p.caches k t e) less))
  where
    zeros : {x : Option (Option Page)} (o : Option (Option Page)) → x ≡ option_map (zeros_by p.page_bytes) o → IsSome o → length (shown x) ≡ p.page_bytes
    zeros None e some = absurd (cc some)
    zeros (Some v) e some = ap (λ y. length (shown y)) e ∙ length-replicate p.page_bytes 0

-- Values are the machine's pages

-- the bytes of a value, where they are told, aren't none
abbrev pub IsFull : Option (Option Page) → Type 0
IsFull v = option_map (λ _. told (shown v)) v ≡ v

full_some : (v : Option (Option Page)) → 1 ≤ length (shown v) → IsFull v
full_some None some = refl
full_some (Some None) some = refl
full_some (Some (Some [])) some = absurd (omega (arith, some))
full_some (Some (Some (b ∷ bs))) some = refl

untold_full : (w : World) → w.told ≡ None → (n : NodeId) → IsFull (own_page w n)
untold_full w none n = subst (λ (t : Option Held). IsFull (page_by (option_map (λ _. zero_page w) t) (option_map (λ _. frame_page w n) t) (λ slot. option_and_then (λ h. slot_of h slot) t) (option_and_then (λ h. option_and_then (page_at h) (home_of w.caches n)) t) (own_of w.caches n))) (sym none) (go (own_of w.caches n))
  where
    go : (x : OwnState) → IsFull (page_by None None (λ slot. None) None x)
    go Absent = refl
    go Zero = refl
    go (Resident d) = refl
    go (Slot s) = refl
    go OnSegment = refl

all_at : {A : Type 0} (P : A → Type 0) (xs : List A) (i : ℕ) (x : A) → slice_get xs i ≡ Some x → All P xs → P x
all_at P xs i x e h = subst P (get_or_from_slice_get xs i x x e) (All-get_or P xs i x (slice_get_within xs i x e) h)

-- the page of a table that is there
pub page_shown : (f : PageForest) (p : Manager) (cache : CacheId) (page : ℕ) (t : Table) → table_of p.caches cache.0 ≡ Some t → page < length t.pages → page_in (machine_by p f) cache.0 page ≡ Some (shown (value_of f (page_name cache page)))
page_shown f p cache page t e less =
    ap (option_and_then (λ (c : Cache). slice_get c.pages page)) (numbered-caches f p.caches.caches cache.0 ∙ ap (option_map (cache_shown f cache.0)) e)
    ∙ get-pages f cache.0 0 (length t.pages) page less ∙ ap (λ (k : ℕ). Some (shown (value_of f (page_name cache k)))) (let z : 0 + page ≡ page = omega arith in z)

-- no page where the table has none
page_out : (f : PageForest) (p : Manager) (cache : CacheId) (page : ℕ) (o : Option Table) → table_of p.caches cache.0 ≡ o → ((t : Table) → o ≡ Some t → length t.pages ≤ page) → page_in (machine_by p f) cache.0 page ≡ None
page_out f p cache page None e out = ap (option_and_then (λ (c : Cache). slice_get c.pages page)) (numbered-caches f p.caches.caches cache.0 ∙ ap (option_map (cache_shown f cache.0)) e)
page_out f p cache page (Some t) e out =
    ap (option_and_then (λ (c : Cache). slice_get c.pages page)) (numbered-caches f p.caches.caches cache.0 ∙ ap (option_map (cache_shown f cache.0)) e)
    ∙ slice_get_past (pages_shown f cache.0 0 (length t.pages)) page (omega (arith, out t refl, length-pages f cache.0 0 (length t.pages)))

-- a page of a machine whose pages are whole
pub whole_page : (b : ℕ) (m : Machine) (n page : ℕ) (v : Page) → All (outcome.IsWhole b) m.caches → page_in m n page ≡ Some v → length v ≡ b
whole_page b m n page v all e = at (cache_of m n) refl e
  where
    at : (o : Option Cache) → cache_of m n ≡ o → option_and_then (λ (c : Cache). slice_get c.pages page) o ≡ Some v → length v ≡ b
    at None there e = absurd (cc e)
    at (Some c) there e = all_at (λ (p : Page). length p ≡ b) c.pages page v e (numbered-all (outcome.IsWhole b) m.caches n c there all)

no_page_of : (o : Option Table) (page : ℕ) → o ≡ None → (n : ℕ) → option_map (λ (t : Table). length t.pages) o ≡ Some n → page < n → ⊥
no_page_of o page e n size less = cc (sym (ap (option_map (λ (t : Table). length t.pages)) e) ∙ size)

past_page_of : (o : Option Table) (t : Table) (page : ℕ) → o ≡ Some t → length t.pages ≤ page → (n : ℕ) → option_map (λ (t : Table). length t.pages) o ≡ Some n → page < n → ⊥
past_page_of o t page e past n size less = (let two : Some (length t.pages) ≡ Some n = sym (ap (option_map (λ (t : Table). length t.pages)) e) ∙ size in let same : length t.pages ≡ n = cc two in absurd (omega (arith, less, past)))

module _ (p : Manager) (h : Option Held) (nodes : IsWhole p.caches) (some : 1 ≤ p.page_bytes) (whole : IfSome h (λ _. HasWholePages (machine_of p h))) where
  full : (cache : CacheId) (page : ℕ) → IsFull (value_of (forest_of p h) (page_name cache page))
  full cache page = go h refl whole
    where
      in_table : (All (outcome.IsWhole p.page_bytes) (machine_of p h).caches) → (o : Option Table) → table_of p.caches cache.0 ≡ o → IsFull (value_of (forest_of p h) (page_name cache page))
      in_table all None e = subst IsFull (sym (no_value p h nodes cache page (no_page_of (table_of p.caches cache.0) page e))) refl
      in_table all (Some t) e = elim (cases_lt page (length t.pages)) [
        | inl less ↦ (
            let v = page_shown (forest_of p h) p cache page t e less in
            full_some (value_of (forest_of p h) (page_name cache page)) (omega (arith, some, whole_page p.page_bytes (machine_of p h) cache.0 page (shown (value_of (forest_of p h) (page_name cache page))) all v)))
        | inr past ↦ subst IsFull (sym (no_value p h nodes cache page (past_page_of (table_of p.caches cache.0) t page e past))) refl
      ]

      go : (g : Option Held) → h ≡ g → IfSome g (λ _. HasWholePages (machine_of p h)) → IsFull (value_of (forest_of p h) (page_name cache page))
      go None e w = each_value (world_of p h) nodes.sound IsFull (untold_full (world_of p h) e) refl nodes.consistent.shaped (page_name cache page)
      go (Some g) e w = in_table w (table_of p.caches cache.0) refl

  -- each value is that page of the machine, and nothing for other names
  pub values : (cache : CacheId) (page : ℕ) → value_of (forest_of p h) (page_name cache page) ≡ option_map told (page_in (machine_of p h) cache.0 page)
  values cache page = go (table_of p.caches cache.0) refl
    where
      v : Option (Option Page)
      v = value_of (forest_of p h) (page_name cache page)

      there : (o : Option (Option Page)) → IsSome o → IsFull o → o ≡ Some (told (shown o))
      there None s f = absurd (cc s)
      there (Some x) s f = sym f

      go : (o : Option Table) → table_of p.caches cache.0 ≡ o → value_of (forest_of p h) (page_name cache page) ≡ option_map told (page_in (machine_of p h) cache.0 page)
      go None e = no_value p h nodes cache page (no_page_of (table_of p.caches cache.0) page e) ∙ sym (ap (option_map told) (page_out (forest_of p h) p cache page None e (λ t q. absurd (cc q))))
      go (Some t) e = elim (cases_lt page (length t.pages)) [
        | inl less ↦ there v (value_there p h nodes cache page (length t.pages) (ap (option_map (λ (t : Table). length t.pages)) e) less) (full cache page) ∙ sym (ap (option_map told) (page_shown (forest_of p h) p cache page t e less))
        | inr past ↦ no_value p h nodes cache page (past_page_of (table_of p.caches cache.0) t page e past) ∙ sym (ap (option_map told) (page_out (forest_of p h) p cache page (Some t) e (λ u q. (let same : t ≡ u = cc q in omega (arith, past, ap (λ (t : Table). length t.pages) same)))))
      ]

  -- The forest of a manager agrees with its machine.
  pub followed_of : IsFollowed (machine_of p h) (forest_of p h)
  followed_of = record {
    consistent = consistent_of p h nodes;
    agrees = record {
      nodes = λ cache page. (
          let each = nodes_have_values (forest_of p h) (shaped_of p h nodes) (page_name cache page) in (
            (λ is. some_from (page_in (machine_of p h) cache.0 page) (subst IsSome (values cache page) (each.0 is))),
            (λ is. each.1 (subst IsSome (sym (values cache page)) (some_to (page_in (machine_of p h) cache.0 page) is))),
          ));
      values = values;
    };
  }
    where
      some_from : (o : Option Page) → IsSome (option_map told o) → IsSome o
      some_from None e = e
      some_from (Some x) e = refl

      some_to : (o : Option Page) → IsSome o → IsSome (option_map told o)
      some_to None e = e
      some_to (Some x) e = refl
