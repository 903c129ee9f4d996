-- The pages of a range become those of their segment, one after the other.
use Rattle.std.proofs.Common.{◌≡◌, ℕ, true, false, List, [], ◌∷◌, map, Option, Some, None, is_some, unwrap_or, refl, sym, ap, ◌∙◌, subst, inl, inr}
use Rattle.std.specs.Prelude.{option_and_then}
use Rattle.vm_ids.specs.Held.{Held}
use Rattle.vm_ids.specs.declared.node_name.NodeName.{NodeName}
use Rattle.vm_ids.specs.declared.numbers.CacheId.{CacheId}
use Rattle.vm_ids.specs.declared.node_name.NodeName.TheVariants.{Live, Working}
use Rattle.vm_ids.specs.declared.numbers.NodeId.{NodeId}
use Rattle.vm_ids.specs.declared.numbers.PageNo.{PageNo}
use Rattle.vm_ids.specs.Forest.Commands.{firsts, page_names, replace_pages}
use Rattle.vm_ids.specs.Forest.Changes.{put}
use Rattle.vm_ids.specs.Forest.NameLists.{◌∈◌}
use Rattle.vm_ids.specs.Forest.Nodes.{Forest, IsNode, childless, is_live}
use Rattle.vm_ids.specs.Forest.Nodes.Hang.{Root}
use Rattle.vm_ids.specs.Forest.Rules.{detach, retire}
use Rattle.vm_ids.specs.Forest.Settling.{settle}
use Rattle.vm_ids.specs.Forest.Shape.{IsConsistent}
use Rattle.vm_ids.specs.Forest.Saving.{is_unsaved}
use Rattle.vm_ids.specs.Forest.Forgetting.{forgotten}
use Rattle.vm_ids.specs.Forest.Laws.Commands.{ArePagesOnce}
use Rattle.vm_ids.proofs.Forest.Laws.Forgetting.{replace-forgets}
use Rattle.vm_ids.specs.Forest.Laws.Ranges.{AreNodes}
use Rattle.vm_ids.proofs.Forest.Laws.Ranges.{extents_are_pages}
use Rattle.vm_ids.proofs.Forest.Names.{name_cases}
use Rattle.vm_ids.proofs.Forest.NodesAfter.{IsNode-put, put-IsNode}
use Rattle.vm_ids.proofs.Forest.OneDetached.{retired}
use Rattle.local_cache.specs.declared.home.Home.{Home}
use Rattle.local_cache.specs.declared.own_state.OwnState.TheVariants.{OnSegment}
use Rattle.local_cache.specs.Arena.{Arena, Cell, HasNode, blank, cell, find}
use Rattle.local_cache.specs.Own.{own_of}
use Rattle.local_cache.specs.Reading.{name_of}
use Rattle.local_cache.specs.Sound.{IsSound}
use Rattle.local_cache.specs.Whole.{SameCaches}
use Rattle.local_cache.proofs.NewNode.States.{fresh_name, fresh_own}
use Rattle.tree_merge.specs.declared.released.Released.{Released}
use Rattle.tree_merge.specs.Releasing.{IsDetached}
use Rattle.residency.specs.declared.store.Store.{Store}
use Rattle.residency.specs.World.{is_clean, page_at, world}
use Rattle.page_commands.specs.Homes.{HasHome, IsClean, KeepsHomes, named_page}
use Rattle.page_commands.specs.Readings.{held_pages, new_pages}
use Rattle.page_commands.proofs.TiedStores.Homes.{home_name}

-- each name with a page
abbrev pub with_page : {P : Type 0} → (NodeName → P) → List NodeName → List (NodeName × P)
with_page page xs = map (λ x. (x, page x)) xs

pub first_names : {P : Type 0} (page : NodeName → P) (xs : List NodeName) → firsts (with_page page xs) ≡ xs
first_names page [] = refl
first_names page (x ∷ xs) = ap (λ ys. x ∷ ys) (first_names page xs)

module _ {P : Type 0} where
  -- no node goes
  pub detach_stays : (f : Forest P) → IsConsistent f → (x : NodeName) → IsNode f x → is_live x ≡ true → (v : P) → (y : NodeName) → IsNode f y → IsNode (detach f x (Some v)) y
  unfolding detach
  detach_stays f c x is live v y there = elim (name_cases y x) [
    | inl e ↦ subst (IsNode (put (retire f x) x (childless (Some v) Root))) (sym e) (IsNode-put (retire f x) x (childless (Some v) Root))
    | inr apart ↦ put-IsNode (retire f x) x y (childless (Some v) Root) ((retired f c x is live).stays y there apart)
  ]

  -- what was forgotten isn't seen
  pub replace_forgotten : (page : NodeName → P) (xs : List NodeName) (f : Forest P) → IsConsistent f → ArePagesOnce f xs → ((x : NodeName) → x ∈ xs → is_unsaved f x ≡ false) → (p : P)
      → settle (replace_pages (with_page page xs) (forgotten xs p f)) ≡ settle (replace_pages (with_page page xs) f)
  replace_forgotten page xs f c are saved p =
      let names = first_names page xs in
      ap (λ ys. settle (replace_pages (with_page page xs) (forgotten ys p f))) (sym names)
      ∙ replace-forgets (with_page page xs) f c (subst (ArePagesOnce f) (sym names) are) (λ x i. saved x (subst (λ ys. x ∈ ys) names i)) p

-- what a segment holds stays
pub named_page_same : (told : Option Held) (size : Option ℕ) (s : Store) (a : Arena) (t : Store) (b : Arena) → SameCaches a b → (x : NodeName) → named_page (world told size b t) x ≡ named_page (world told size a s) x
named_page_same told size s a t b same x = ap (λ (o : Option Home). option_and_then (λ h. option_and_then (page_at h) o) told) (home_name a b same x)

pub segment_pages_same : (told : Option Held) (size : Option ℕ) (s : Store) (a : Arena) (t : Store) (b : Arena) → SameCaches a b → (xs : List NodeName) → held_pages (new_pages (world told size b t)) xs ≡ held_pages (new_pages (world told size a s)) xs
segment_pages_same told size s a t b same xs = λ i. map (λ x. (x, named_page_same told size s a t b same x i)) xs

-- the pages of a range, each once
pub pages_of : {P : Type 0} (f : Forest P) (cache : CacheId) (first pages : ℕ) → AreNodes f cache first pages → ArePagesOnce f (page_names cache first pages)
pages_of f cache first pages nodes = extents_are_pages f (record { cache = cache; first = record { 0 = first }; pages = pages }) nodes

-- a page that is one of its segment's is so still
pub clean_then : (xs : List NodeName) (a b : Arena) → KeepsHomes xs a b → (x : NodeName) → HasHome b x → (x ∈ xs → ⊥) → IsClean a x → IsClean b x
clean_then xs a b homes x home out was n named =
    let k = homes.nodes n (subst (λ y. HasHome b y) (sym named) home) in
    elim k.clean [
      | inr i ↦ absurd (out (subst (λ y. y ∈ xs) named i))
      | inl same ↦ same ∙ was k.node (k.named ∙ named)
    ]

-- a node with the name of a page is there
pub named_held : (a : Arena) (n : NodeId) (cache : CacheId) (page : PageNo) → name_of a n ≡ Live cache page → HasNode a n
unfolding cell
named_held a n cache page named = go (find a n) refl
  where
    go : (o : Option Cell) → find a n ≡ o → HasNode a n
    go None e = absurd (let clash : Working 0 ≡ Live cache page = sym (ap (λ (o : Option Cell). (unwrap_or o blank).name) e) ∙ named in cc)
    go (Some k) e = ap is_some e

-- the page that was detached with the page of its segment
pub detached_clean : (a b : Arena) → IsSound b → (n : NodeId) (cache : CacheId) (page : PageNo) (r : Released) → IsDetached a b n (Live cache page) OnSegment r → IsClean b (Live cache page)
detached_clean a b sound n cache page r is m named =
    let fresh : name_of b is.fresh ≡ Live cache page = ap (λ (k : Arena). name_of k is.fresh) is.is ∙ fresh_name is.between is.fresh is.free (Live cache page) OnSegment in
    let own : own_of b is.fresh ≡ OnSegment = ap (λ (k : Arena). own_of k is.fresh) is.is ∙ fresh_own is.between is.fresh is.free (Live cache page) OnSegment in
    let one : m ≡ is.fresh = sound.kept.named.apart m is.fresh (named_held b m cache page named) (named_held b is.fresh cache page fresh) (named ∙ sym fresh) in
    ap (λ (k : NodeId). is_clean (own_of b k)) one ∙ ap is_clean own
