-- The pages of a range are forgotten, one after the other.
use Rattle.std.proofs.Common.{◌≡◌, ℕ, suc, ◌+◌, ◌-◌, ◌<◌, ◌≤◌, [], ◌∷◌, IsSome, refl, sym, ap, ◌∙◌, subst, arith}
use Rattle.vm_ids.specs.declared.node_name.NodeName.{NodeName}
use Rattle.vm_ids.specs.declared.node_name.NodeName.TheVariants.{Live, Working}
use Rattle.vm_ids.specs.declared.numbers.CacheId.{CacheId}
use Rattle.vm_ids.specs.Forest.Commands.{page_name, page_names}
use Rattle.vm_ids.specs.Forest.Forgetting.{forget, forgotten}
use Rattle.vm_ids.specs.Forest.NameLists.{◌∈◌}
use Rattle.vm_ids.specs.Forest.Nodes.{Forest}
use Rattle.vm_ids.specs.Forest.Laws.Ranges.{AreNodes}
use Rattle.vm_ids.proofs.Forest.Laws.Ranges.{ranges_hold_their_pages}
use Rattle.local_cache.specs.Arena.{Arena, node_at}
use Rattle.local_cache.specs.Reading.{forest_of}
use Rattle.local_cache.specs.Sound.{IsSound}
use Rattle.local_cache.proofs.Whole.LivePages.{page_there}
use Rattle.residency.specs.World.{SameNodes}

-- the names from one place on, and the first of them
pub names_step : (c : CacheId) (p n i : ℕ) → i < n → page_names c (p + i) (n - i) ≡ page_name c (p + i) ∷ page_names c (p + (i + 1)) (n - (i + 1))
names_step c p n i low =
    let left : n - i ≡ suc (n - (i + 1)) = omega arith in
    let next : p + i + 1 ≡ p + (i + 1) = omega arith in
    ap (page_names c (p + i)) left ∙ ap (λ q. page_name c (p + i) ∷ page_names c q (n - (i + 1))) next

pub names_start : (c : CacheId) (p n : ℕ) → page_names c p n ≡ page_names c (p + 0) (n - 0)
names_start c p n =
    let from : p ≡ p + 0 = omega arith in
    let all : n ≡ n - 0 = omega arith in
    λ k. page_names c (from k) (all k)

pub names_end : (c : CacheId) (p n i : ℕ) → n ≤ i → page_names c p (n - i) ≡ []
names_end c p n i over = let none : n - i ≡ 0 = omega arith in ap (page_names c p) none

-- one page is forgotten
module _ {P : Type 0} (f g : Forest P) (c : CacheId) (p n i : ℕ) (low : i < n) (zeros : P) (is : g ≡ forget f (page_name c (p + i)) zeros) where
  pub forgotten_by : forgotten (page_names c (p + (i + 1)) (n - (i + 1))) zeros g ≡ forgotten (page_names c (p + i) (n - i)) zeros f
  forgotten_by = ap (forgotten (page_names c (p + (i + 1)) (n - (i + 1))) zeros) is ∙ sym (ap (λ xs. forgotten xs zeros f) (names_step c p n i low))

pub in_range : (c : CacheId) (p n i : ℕ) → i < n → page_name c (p + i) ∈ page_names c p n
in_range c p n i low = (ranges_hold_their_pages c p n (page_name c (p + i))).1 (i, low, refl)

-- two pages of a range are one only where their places are
pub same_place : (c : CacheId) (p i j : ℕ) → page_name c (p + i) ≡ page_name c (p + j) → i ≡ j
same_place c p i j e = let k = ap number e in omega (arith, k)
  where
    number : NodeName → ℕ
    number (Live d q) = q.0
    number (Working k) = 0

-- The nodes stay
module _ (a b : Arena) (same : SameNodes a b) where
  pub node_stays : (cache page : ℕ) → node_at b cache page ≡ node_at a cache page
  node_stays cache page = ap (λ (k : Arena). node_at k cache page) same.rest

  pub range_stays : IsSound a → (c : CacheId) (p n i : ℕ) → AreNodes (forest_of a) c p n → i < n → IsSome (node_at b c.0 (p + i))
  range_stays sound c p n i nodes low = subst IsSome (sym (node_stays c.0 (p + i))) (page_there a sound c (record { 0 = p + i }) (nodes i low))
