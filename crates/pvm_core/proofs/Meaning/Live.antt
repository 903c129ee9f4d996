-- There are no more live nodes than pages of live caches.
use Rattle.std.proofs.Common.{◌≡◌, ℕ, zero, suc, ◌+◌, ◌*◌, ◌<◌, ◌≤◌, true, List, [], ◌∷◌, ◌++◌, get_or, length, Option, Some, None, option_map, refl, ap, subst, arith, inl, inr}
use Rattle.std.specs.Prelude.{sum_by}
use Rattle.std.proofs.lemmas.Bool.{false≢true}
use Rattle.std.proofs.lemmas.List.{length-append}
use Rattle.std.proofs.lemmas.List.Sums.{sum_by-cons}
use Rattle.vm_ids.specs.declared.node_name.NodeName.{NodeName}
use Rattle.vm_ids.specs.declared.node_name.NodeName.TheVariants.{Live, Working}
use Rattle.vm_ids.specs.declared.numbers.CacheId.{CacheId}
use Rattle.vm_ids.specs.Forest.Commands.{page_name, page_names}
use Rattle.vm_ids.specs.Forest.NameLists.{◌∈◌}
use Rattle.vm_ids.specs.Forest.NameMap.{keys}
use Rattle.vm_ids.specs.Forest.Nodes.{IsNode, is_live}
use Rattle.vm_ids.specs.Forest.Reading.{live_count}
use Rattle.vm_ids.specs.Forest.Shape.{IsBounded}
use Rattle.vm_ids.proofs.Forest.Agreeing.{subset_le}
use Rattle.vm_ids.proofs.Forest.Bound.{Once-keys, key-IsNode}
use Rattle.vm_ids.proofs.Forest.NameLists.{Once-filter, in_filter}
use Rattle.vm_ids.proofs.Forest.Laws.Ranges.{ranges_hold_their_pages}
use Rattle.local_cache.specs.Arena.{Arena, Table, page_count}
use Rattle.local_cache.specs.Own.{own_states}
use Rattle.local_cache.specs.Reading.{forest_of}
use Rattle.local_cache.specs.Whole.{IsWhole, size_of}
use Rattle.local_cache.proofs.Whole.LivePages.{node_page}
use Rattle.page_commands.proofs.TiedStores.Sized.{states_bound}
use Rattle.residency.specs.declared.store.Store.{Store}
use Rattle.contexts.specs.Actors.{Actors}
use Rattle.pvm_core.specs.Manager.{IsManagerSound, live_in}
use Rattle.pvm_core.proofs.Meaning.Shown.{id_of}

abbrev names_in : ℕ → List (Option Table) → List NodeName
names_in first [] = []
names_in first (t ∷ ts) = page_names (id_of first) 0 (page_count t) ++ names_in (first + 1) ts

length-names : (c : CacheId) (p n : ℕ) → length (page_names c p n) ≡ n
length-names c p zero = refl
length-names c p (suc n) = ap suc (length-names c (p + 1) n)

many : (first : ℕ) (ts : List (Option Table)) → length (names_in first ts) ≡ sum_by page_count ts
many first [] = refl
many first (t ∷ ts) = omega (arith, length-append (page_names (id_of first) 0 (page_count t)) (names_in (first + 1) ts), length-names (id_of first) 0 (page_count t), many (first + 1) ts, sum_by-cons page_count t ts)

in_left : (xs ys : List NodeName) (x : NodeName) → x ∈ xs → x ∈ (xs ++ ys)
in_left [] ys x i = absurd i
in_left (y ∷ xs) ys x (inl e) = inl e
in_left (y ∷ xs) ys x (inr i) = inr (in_left xs ys x i)

in_right : (xs ys : List NodeName) (x : NodeName) → x ∈ ys → x ∈ (xs ++ ys)
in_right [] ys x i = i
in_right (y ∷ xs) ys x i = inr (in_right xs ys x i)

pages_of : (o : Option Table) (n : ℕ) → option_map (λ (t : Table). length t.pages) o ≡ Some n → page_count o ≡ n
pages_of None n e = absurd (cc e)
pages_of (Some t) n e = cc e

there : (first : ℕ) (ts : List (Option Table)) (k page n : ℕ) → option_map (λ (t : Table). length t.pages) (get_or ts k None) ≡ Some n → page < n → page_name (id_of (first + k)) page ∈ names_in first ts
there first [] k page n e less = absurd (cc e)
there first (t ∷ ts) zero page n e less = in_left (page_names (id_of first) 0 (page_count t)) (names_in (first + 1) ts) _
    (subst (λ (k : ℕ). page_name (id_of k) page ∈ page_names (id_of first) 0 (page_count t)) (let e : first ≡ first + 0 = omega arith in e)
    ((ranges_hold_their_pages (id_of first) 0 (page_count t) (page_name (id_of first) page)).1 (page, omega (arith, less, pages_of t n e), ap (page_name (id_of first)) (let z : page ≡ 0 + page = omega arith in z))))
there first (t ∷ ts) (suc k) page n e less = in_right (page_names (id_of first) 0 (page_count t)) (names_in (first + 1) ts) _
    (subst (λ (k : ℕ). page_name (id_of k) page ∈ names_in (first + 1) ts) (let e : first + 1 + k ≡ first + suc k = omega arith in e) (there (first + 1) ts k page n e less))

listed : (a : Arena) (n page count : ℕ) → size_of a n ≡ Some count → page < count → page_name (id_of n) page ∈ names_in 1 a.caches
listed a zero page count e less = absurd (cc e)
listed a (suc k) page count e less = subst (λ (n : ℕ). page_name (id_of n) page ∈ names_in 1 a.caches) (let e : 1 + k ≡ suc k = omega arith in e) (there 1 a.caches k page count e less)

live_listed : (a : Arena) → IsWhole a → (x : NodeName) → is_live x ≡ true → IsNode (forest_of a) x → x ∈ names_in 1 a.caches
live_listed a w (Live cache page) live is = let n = node_page a w.sound cache page.0 is in listed a cache.0 page.0 n.0 n.1 n.2
live_listed a w (Working k) live is = absurd (false≢true live)

pub live_most : (a : Arena) → IsWhole a → live_count (forest_of a) ≤ live_in a
live_most a w =
    let ks = keys (forest_of a).nodes in
    let most = subset_le (Rattle.std.specs.Prelude.filter is_live ks) (names_in 1 a.caches) (Once-filter is_live ks (Once-keys (forest_of a).nodes.list (forest_of a).nodes.sorted))
    (λ x i. (let p = in_filter is_live ks x i in live_listed a w x p.1 (key-IsNode (forest_of a) x p.0))) in
    omega (arith, most, many 1 a.caches)

-- where working nodes are bound, there are no more nodes than twice the live pages
pub states_live : (a : Arena) → IsWhole a → IsBounded (forest_of a) → length (own_states a) ≤ 2 * live_in a
states_live a w b = omega (arith, states_bound a w.sound.kept.named b, live_most a w)

pub nodes_most : {a : Arena} {s : Store} {t : Actors} {live : ℕ} → IsManagerSound a s t live → length (own_states a) ≤ 2 * live
nodes_most {a} i = omega (arith, states_live a i.nodes i.bounded, i.counted)
