-- The pages of live caches and their nodes, and what leaves the caches whole.
use Rattle.std.proofs.Common.{◌≡◌, ℕ, zero, suc, ◌+◌, ◌<◌, ◌≤◌, ◌^◌, true, List, [], ◌∷◌, get_or, length, Option, Some, None, IsSome, is_some, option_map, slice_get, refl, sym, ap, ◌∙◌, subst, arith}
use Rattle.std.specs.Prelude.{option_and_then}
use Rattle.std.proofs.lemmas.Bool.{false≢true}
use Rattle.vm_ids.specs.declared.node_name.NodeName.{NodeName}
use Rattle.vm_ids.specs.declared.node_name.NodeName.TheVariants.{Live}
use Rattle.vm_ids.specs.declared.numbers.CacheId.{CacheId}
use Rattle.vm_ids.specs.declared.numbers.NodeId.{NodeId}
use Rattle.vm_ids.specs.declared.numbers.PageNo.{PageNo}
use Rattle.vm_ids.specs.Forest.Nodes.{Forest, IsNode, is_live, no_forest}
use Rattle.vm_ids.specs.Forest.NameMap.{empty, len}
use Rattle.vm_ids.specs.Forest.Shape.{IsConsistent}
use Rattle.vm_ids.specs.Forest.Commands.{page_name, page_names}
use Rattle.vm_ids.specs.Forest.Laws.Commands.{ArePagesOnce}
use Rattle.vm_ids.specs.Forest.Laws.Ranges.{AreNodes}
use Rattle.vm_ids.proofs.Forest.Laws.Ranges.{ranges_hold_pages_once, ranges_hold_their_pages}
use Rattle.local_cache.specs.declared.own_state.OwnState.{OwnState}
use Rattle.local_cache.specs.declared.page_entry.PageEntry.{PageEntry}
use Rattle.local_cache.specs.Arena.{Arena, Table, node_at, table_of}
use Rattle.local_cache.specs.Reading.{forest_of}
use Rattle.local_cache.specs.Sound.{IsSound}
use Rattle.local_cache.specs.Whole.{IsWhole, SameCaches, size_of}
use Rattle.local_cache.proofs.Forest.Reading.{forest_of-IsNode}

-- Pages and nodes

-- a page of the forest has a node
pub page_there : (a : Arena) → IsSound a → (cache : CacheId) (page : PageNo) → IsNode (forest_of a) (Live cache page) → IsSome (node_at a cache.0 page.0)
page_there a sound cache page is = let found = forest_of-IsNode a (Live cache page) is in ap is_some (sound.kept.listed.pages cache.0 page.0 found.0 found.1 found.2)

abbrev node_in : ℕ → Option Table → Option NodeId
node_in page o = option_and_then (λ (t : Table). option_and_then (λ (e : PageEntry). e.node) (slice_get t.pages page)) o

entry_below : (es : List PageEntry) (page : ℕ) → IsSome (option_and_then (λ (e : PageEntry). e.node) (slice_get es page)) → page < length es
entry_below [] page h = absurd (false≢true h)
entry_below (e ∷ es) zero h = omega arith
entry_below (e ∷ es) (suc page) h = let low = entry_below es page h in omega arith

sized : (o : Option Table) (page : ℕ) → IsSome (node_in page o) → (n : ℕ) × (option_map (λ (t : Table). length t.pages) o ≡ Some n) × (page < n)
sized None page h = absurd (false≢true h)
sized (Some t) page h = (length t.pages, refl, entry_below t.pages page h)

-- a node of a page is that of a page that a live cache has
pub node_page : (a : Arena) → IsSound a → (cache : CacheId) (page : ℕ) → IsNode (forest_of a) (page_name cache page) → (n : ℕ) × (size_of a cache.0 ≡ Some n) × (page < n)
node_page a sound cache page is = sized (table_of a cache.0) page (page_there a sound cache (record { 0 = page }) is)

-- where a cache isn't live, or hasn't so many pages, there is no node
pub no_node : (a : Arena) → IsSound a → (cache : CacheId) (page : ℕ) → ((n : ℕ) → size_of a cache.0 ≡ Some n → page < n → ⊥) → IsNode (forest_of a) (page_name cache page) → ⊥
no_node a sound cache page none is = let p = node_page a sound cache page is in none p.0 p.1 p.2

-- the pages of a range are there exactly where the cache is as long
pub range_there : (a : Arena) → IsWhole a → (cache : CacheId) (first pages count : ℕ) → size_of a cache.0 ≡ Some count → first + pages ≤ count → AreNodes (forest_of a) cache first pages
range_there a whole cache first pages count size low i less = whole.pages cache (first + i) count size (omega arith)

-- the pages of a live cache
pub pages_once : (a : Arena) → IsWhole a → (cache : CacheId) (n : ℕ) → size_of a cache.0 ≡ Some n → ArePagesOnce (forest_of a) (page_names cache 0 n)
pages_once a whole cache n size = record {
  once = ranges_hold_pages_once cache 0 n;
  live = λ x i.
      let at = (ranges_hold_their_pages cache 0 n x).0 i in
      let number : 0 + at.0 ≡ at.0 = omega arith in
      let is : x ≡ page_name cache at.0 = at.2 ∙ ap (page_name cache) number in
      (subst (IsNode (forest_of a)) (sym is) (whole.pages cache at.0 n size at.1), ap is_live is);
}

-- What keeps the caches whole

pub whole_after : (a b : Arena) → IsWhole a → IsSound b → IsConsistent (forest_of b) → SameCaches a b → ((x : NodeName) → is_live x ≡ true → IsNode (forest_of a) x → IsNode (forest_of b) x) → len (forest_of b).nodes < 2 ^ 32 → IsWhole b
whole_after a b whole sound consistent sizes stays few = record {
  sound = sound;
  consistent = consistent;
  pages = λ cache page count size low. stays (page_name cache page) refl (whole.pages cache page count (sym (sizes.sizes cache.0) ∙ size) low);
  few = few;
}

-- the forest and the tables are the same
pub whole_same : (a b : Arena) → IsWhole a → IsSound b → forest_of b ≡ forest_of a → SameCaches a b → IsWhole b
whole_same a b whole sound is sizes = whole_after a b whole sound (subst IsConsistent (sym is) whole.consistent) sizes (λ x live there. subst (λ g. IsNode g x) (sym is) there) (subst (λ g. len g.nodes < 2 ^ 32) (sym is) whole.few)

-- No cache yet

pub no_caches : (a : Arena) → a.caches ≡ [] → (cache n : ℕ) → size_of a cache ≡ Some n → ⊥
no_caches a none zero n size = cc size
no_caches a none (suc k) n size = let e : None ≡ Some n = sym (ap (λ (ts : List (Option Table)). option_map (λ (t : Table). length t.pages) (get_or ts k None)) none) ∙ size in cc e

pub no_nodes : (f : Forest OwnState) → f ≡ no_forest → len f.nodes < 2 ^ 32
unfolding empty
no_nodes f is = subst (λ (g : Forest OwnState). len g.nodes < 2 ^ 32) (sym is) (omega arith)
