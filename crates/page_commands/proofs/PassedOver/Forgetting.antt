-- Some pages of a range are forgotten, and the others are passed over.
use Rattle.std.proofs.Common.{◌≡◌, ℕ, ◌+◌, ◌≤◌, List, [], ◌∷◌, ◌++◌, length, None, true, refl, sym, ap, ◌∙◌, inl, inr, arith}
use Rattle.std.specs.Prelude.{option_map, replicate}
use Rattle.vm_ids.specs.declared.node_name.NodeName.{NodeName}
use Rattle.vm_ids.specs.declared.numbers.CacheId.{CacheId}
use Rattle.vm_ids.specs.Forest.Commands.{page_name, page_names}
use Rattle.vm_ids.specs.Forest.Forgetting.{forget, forgotten}
use Rattle.vm_ids.specs.Forest.NameLists.{◌∈◌}
use Rattle.vm_ids.specs.Forest.Nodes.{Forest, child_count}
use Rattle.vm_ids.specs.Forest.PageMap.{bare, no_page}
use Rattle.vm_ids.proofs.Forest.Laws.Ranges.{ranges_hold_their_pages}
use Rattle.vm_ids.proofs.Forest.LostPages.{forgotten-bare}
use Rattle.vm_ids.proofs.Forest.NameLists.{in_append}
use Rattle.vm_ids.proofs.Forest.PageMap.{node-map}
use Rattle.local_cache.specs.declared.own_state.OwnState.TheVariants.{Zero}
use Rattle.local_cache.specs.Arena.{Arena}
use Rattle.local_cache.specs.Reading.{forest_of}
use Rattle.residency.specs.declared.store.Store.{Store}
use Rattle.residency.specs.Seeing.{frame_forest}
use Rattle.residency.specs.StoreForest.{store_forest}
use Rattle.residency.specs.World.{world}
use Rattle.page_commands.specs.Homes.{MayGo, is_named}
use Rattle.page_commands.specs.Readings.{GoesBy}
use Rattle.page_commands.specs.Steps.{IsStoreTied, Releases}
use Rattle.page_commands.specs.Untouched.{ForgetsSome}
use Rattle.page_commands.proofs.TiedStores.Kept.{unclean_kept}
use Rattle.page_commands.proofs.TiedStores.Named.{named_same}

forgotten-append : {P : Type 0} (xs ys : List NodeName) (p : P) (f : Forest P) → forgotten (xs ++ ys) p f ≡ forgotten ys p (forgotten xs p f)
forgotten-append [] ys p f = refl
forgotten-append (x ∷ xs) ys p f = forgotten-append xs ys p (forget f x p)

-- a part of a range
pub part_of : (c : CacheId) (p n k m : ℕ) → k + m ≤ n → (x : NodeName) → x ∈ page_names c (p + k) m → x ∈ page_names c p n
part_of c p n k m few x i =
    let at = (ranges_hold_their_pages c (p + k) m x).0 i in
    let place : p + k + at.0 ≡ p + (k + at.0) = omega arith in
    (ranges_hold_their_pages c p n x).1 (k + at.0, omega (arith, few, at.1), at.2 ∙ ap (page_name c) place)

pub forgets_none : (c : CacheId) (names : List NodeName) (s : Store) (a : Arena) → ForgetsSome c names s a s a
forgets_none c names s a = record {
  some = [];
  among = λ x i. absurd i;
  rule = record { nodes = refl; forest = λ told size fit. refl; frames = refl };
}

pub forgets_one : (c : CacheId) (x : NodeName) (s : Store) (a : Arena) (t : Store) (b : Arena) → is_named a c ≡ true → GoesBy (λ P put f. forget f x put.zeros) s a t b → ForgetsSome c (x ∷ []) s a t b
forgets_one c x s a t b named rule = record {
  some = x ∷ [];
  among = λ y i. (named, i);
  rule = record { nodes = rule.nodes; forest = rule.forest; frames = rule.frames };
}

-- one after the other, each of pages of a range
module _ (c : CacheId) (all some : List NodeName) (s : Store) (a : Arena) (t : Store) (b : Arena) (u : Store) (d : Arena) (xs : List NodeName) (kept : Releases xs s a t b) where
  pub forgets_then : ((x : NodeName) → x ∈ some → x ∈ all) → ForgetsSome c all s a t b → ForgetsSome c some t b u d → ForgetsSome c all s a u d
  forgets_then within f g = record {
    some = f.some ++ g.some;
    among = λ x i. elim (in_append f.some g.some x i) [
      | inl j ↦ f.among x j
      | inr j ↦ (sym (named_same a b kept.sizes c) ∙ (g.among x j).0, within x (g.among x j).1)
    ];
    rule = record {
      nodes = g.rule.nodes ∙ ap (forgotten g.some Zero) f.rule.nodes ∙ sym (forgotten-append f.some g.some Zero (forest_of a));
      forest = λ told size fit.
          let one = kept.gives_back told size fit in
          let zeros = option_map (λ _. replicate s.frames.page 0) told in
          g.rule.forest told size one.tied
          ∙ ap (λ (m : ℕ). forgotten g.some (option_map (λ _. replicate m 0) told) (store_forest (world told size b t))) one.page
          ∙ ap (forgotten g.some zeros) (f.rule.forest told size fit)
          ∙ sym (forgotten-append f.some g.some zeros (store_forest (world told size a s)));
      frames = g.rule.frames ∙ ap (forgotten g.some None) f.rule.frames ∙ sym (forgotten-append f.some g.some None (frame_forest a s.map));
    };
  }

-- How many children a node has doesn't depend on pages.
pub bare_children : {P Q : Type 0} (f : Forest P) (g : Forest Q) → bare f ≡ bare g → (x : NodeName) → child_count g x ≡ child_count f x
bare_children f g same x =
    sym (ap (λ n. length n.tree + length n.stubs) (node-map no_page g x))
    ∙ sym (ap (λ k. child_count k x) same) ∙ ap (λ n. length n.tree + length n.stubs) (node-map no_page f x)

-- a node of another page may go still
pub may_kept : (c : CacheId) (names xs : List NodeName) (s : Store) (a : Arena) (t : Store) (b : Arena) → IsStoreTied s a → Releases xs s a t b → ForgetsSome c names s a t b → (x : NodeName) → (x ∈ xs → ⊥) → MayGo a x → MayGo b x
may_kept c names xs s a t b tied kept f x out (inl unclean) = inl (unclean_kept xs s a t b tied kept x out unclean)
may_kept c names xs s a t b tied kept f x out (inr none) =
    inr (bare_children (forest_of a) (forest_of b) (sym (ap bare f.rule.nodes ∙ forgotten-bare f.some Zero (forest_of a))) x ∙ none)
