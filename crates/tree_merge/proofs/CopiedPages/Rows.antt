-- Rows of nodes of which no two have a node in common, but for those of one page.
use Rattle.std.proofs.Common.{◌≡◌, ◌≢◌, ℕ, ◌+◌, ◌<◌, ◌≤◌, ◌^◌, List, [], ◌∷◌, Option, Some, None, sym, ap, subst, arith, inl, inr}
use Rattle.std.specs.Prelude.{IfSome}
use Rattle.vm_ids.specs.declared.numbers.NodeId.{NodeId}
use Rattle.local_cache.specs.ManyNodes.{next_node}
use Rattle.local_cache.specs.Sound.{◌∈◌}
use Rattle.tree_merge.specs.Copying.{AreApart, AreFree, AreSameOrApart, IsBeside}

-- nodes of different pages are different
abbrev pub Pass : NodeId → NodeId → ℕ → Type 0
Pass n m count = (i j : ℕ) → i < count → j < count → i ≢ j → next_node n i ≢ next_node m j

pub pass_itself : (n : NodeId) (count : ℕ) → Pass n n count
pass_itself n count i j low high other e = let same : n.0 + i ≡ n.0 + j = ap (λ (k : NodeId). k.0) e in other (omega arith)

pub pass_apart : (n m : NodeId) (count : ℕ) → AreApart n m count → Pass n m count
pass_apart n m count apart i j low high other = apart i low j high

pub pass_same : (n m : NodeId) (count : ℕ) → AreSameOrApart n m count → Pass n m count
pass_same n m count (inl e) = subst (λ x. Pass n x count) e (pass_itself n count)
pass_same n m count (inr apart) = pass_apart n m count apart

pub pass_back : (n m : NodeId) (count : ℕ) → Pass n m count → Pass m n count
pass_back n m count pass i j low high other e = pass j i high low (λ same. other (sym same)) (sym e)

pub apart_back : (n m : NodeId) (count : ℕ) → AreApart n m count → AreApart m n count
apart_back n m count apart i low j high e = apart j high i low (sym e)

-- what holds of so many holds of fewer
pub fewer_apart : (n m : NodeId) (most count : ℕ) → count ≤ most → AreApart n m most → AreApart n m count
fewer_apart n m most count few apart k less j below = apart k (omega arith) j (omega arith)

pub fewer_same : (n m : NodeId) (most count : ℕ) → count ≤ most → AreSameOrApart n m most → AreSameOrApart n m count
fewer_same n m most count few (inl e) = inl e
fewer_same n m most count few (inr apart) = inr (fewer_apart n m most count few apart)

pub fewer_sources : (parent : Option NodeId) (s : NodeId) (most count : ℕ) → count ≤ most → IfSome parent (λ p. AreSameOrApart p s most) → IfSome parent (λ p. AreSameOrApart p s count)
fewer_sources None s most count few all = tt
fewer_sources (Some p) s most count few all = fewer_same p s most count few all

pub fewer_parents : (parent history : Option NodeId) (most count : ℕ) → count ≤ most → IfSome parent (λ p. IfSome history (λ h. AreSameOrApart p h most)) → IfSome parent (λ p. IfSome history (λ h. AreSameOrApart p h count))
fewer_parents None history most count few all = tt
fewer_parents (Some p) None most count few all = tt
fewer_parents (Some p) (Some h) most count few all = fewer_same p h most count few all

fewer_histories : (history : Option NodeId) (d s : NodeId) (most count : ℕ) → count ≤ most → IfSome history (λ h. AreApart h s most × AreApart h d most) → IfSome history (λ h. AreApart h s count × AreApart h d count)
fewer_histories None d s most count few all = tt
fewer_histories (Some h) d s most count few all = (fewer_apart h s most count few all.0, fewer_apart h d most count few all.1)

fewer_short : (history : Option NodeId) (most count : ℕ) → count ≤ most → IfSome history (λ h. h.0 + most ≤ 2 ^ 64) → IfSome history (λ h. h.0 + count ≤ 2 ^ 64)
fewer_short None most count few short = tt
fewer_short (Some h) most count few short = omega (arith, short)

pub fewer_free : (parent history : Option NodeId) (d s : NodeId) (most count : ℕ) → count ≤ most → AreFree parent history d s most → AreFree parent history d s count
fewer_free parent history d s most count few free = record {
  sources = fewer_sources parent s most count few free.sources;
  parents = fewer_parents parent history most count few free.parents;
  histories = fewer_histories history d s most count few free.histories;
  short = fewer_short history most count few free.short;
}

-- Many rows

abbrev pub EachPass : NodeId → List NodeId → ℕ → Type 0
EachPass n [] count = Unit {0}
EachPass n (m ∷ ms) count = Pass n m count × EachPass n ms count

abbrev pub AllPass : List NodeId → ℕ → Type 0
AllPass [] count = Unit {0}
AllPass (n ∷ ns) count = EachPass n ns count × AllPass ns count

pass_of : (n : NodeId) (ms : List NodeId) (count : ℕ) → EachPass n ms count → (m : NodeId) → m ∈ ms → Pass n m count
pass_of n [] count all m is = absurd is
pass_of n (k ∷ ms) count all m (inl e) = subst (λ x. Pass n x count) (sym e) all.0
pass_of n (k ∷ ms) count all m (inr is) = pass_of n ms count all.1 m is

pub all_pass : (ns : List NodeId) (count : ℕ) → AllPass ns count → (n m : NodeId) → n ∈ ns → m ∈ ns → Pass n m count
all_pass [] count all n m is has = absurd is
all_pass (k ∷ ns) count all n m (inl e) (inl g) = subst (λ x. Pass x m count) (sym e) (subst (λ x. Pass k x count) (sym g) (pass_itself k count))
all_pass (k ∷ ns) count all n m (inl e) (inr has) = subst (λ x. Pass x m count) (sym e) (pass_of k ns count all.0 m has)
all_pass (k ∷ ns) count all n m (inr is) (inl g) = subst (λ x. Pass n x count) (sym g) (pass_back k n count (pass_of k ns count all.0 n is))
all_pass (k ∷ ns) count all n m (inr is) (inr has) = all_pass ns count all.1 n m is has

-- a node is none of those of the first pages
abbrev pub IsClear : List NodeId → NodeId → ℕ → Type 0
IsClear ns n k = (m : NodeId) → m ∈ ns → IsBeside n m k

-- the nodes of a page that comes later
pub later_clear : (ns : List NodeId) (count : ℕ) → AllPass ns count → (n : NodeId) → n ∈ ns → (k : ℕ) → k < count → IsClear ns (next_node n k) k
later_clear ns count all n is k below m has i less = all_pass ns count all n m is has k i below (omega arith) (λ e. omega arith)
