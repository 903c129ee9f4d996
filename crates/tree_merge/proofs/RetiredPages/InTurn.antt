-- One page is retired after the other.
use Rattle.std.proofs.Common.{◌≡◌, ℕ, zero, suc, ◌+◌, Some, refl, sym, ap, ◌∙◌, subst, arith, inl}
use Rattle.vm_ids.specs.declared.command.Extent.{Extent}
use Rattle.vm_ids.specs.declared.numbers.CacheId.{CacheId}
use Rattle.vm_ids.specs.declared.numbers.NodeId.{NodeId}
use Rattle.vm_ids.specs.declared.numbers.PageNo.{PageNo}
use Rattle.vm_ids.specs.Forest.Commands.{page_name, page_names, retire_all}
use Rattle.vm_ids.specs.Forest.Nodes.{Forest}
use Rattle.vm_ids.specs.Forest.Rules.{retire}
use Rattle.local_cache.specs.declared.own_state.OwnState.{OwnState}
use Rattle.local_cache.specs.Arena.{Arena, node_at}
use Rattle.local_cache.specs.Own.{own_of}
use Rattle.local_cache.specs.Reading.{forest_of}
use Rattle.local_cache.specs.Sound.{IsSound}
use Rattle.local_cache.proofs.Tables.Sizes.{sizes_same, sizes_then}
use Rattle.tree_merge.specs.declared.released.Released.{Released}
use Rattle.tree_merge.specs.declared.released.Released.TheVariants.{Nothing}
use Rattle.tree_merge.specs.Copying.{IsEmpty, page_after}
use Rattle.tree_merge.specs.Stepping.{AreRetired, AreRetiredBare, IsRetireStep, IsRetiredAlone, IsRetiredAtOnce, IsRetiredBare}
use Rattle.tree_merge.proofs.PagesAlone.Retired.{alone_room, alone_sizes}

-- one more page, behind the others
names_more : {P : Type 0} (c : CacheId) (p k : ℕ) (f : Forest P) → retire_all (page_names c p (suc k)) f ≡ retire (retire_all (page_names c p k) f) (page_name c (p + k))
names_more c p zero f = let first : p ≡ p + 0 = omega arith in ap (λ i. retire f (page_name c i)) first
names_more c p (suc k) f =
    let g = retire f (page_name c p) in
    let next : p + 1 + k ≡ p + suc k = omega arith in
    names_more c (p + 1) k g ∙ ap (λ i. retire (retire_all (page_names c (p + 1) k) g) (page_name c i)) next

module _ (a : Arena) (cache : CacheId) (page : PageNo) where
  none_retired : IsSound a → AreRetired a a cache page 0
  none_retired sound = record { forest = refl; sound = sound; sizes = sizes_same a a refl; room = omega arith; in_turn = refl }

  one_more : (b c : Arena) (k : ℕ) → AreRetired a b cache page k → IsRetiredBare b c cache (page_after page k) → AreRetired a c cache page (suc k)
  one_more b c k so_far one =
      let alone = one.alone in
      record {
        forest = alone.forest
            ∙ ap (λ (f : Forest OwnState). retire f (page_name cache (page.0 + k))) so_far.forest
            ∙ sym (names_more cache page.0 k (forest_of a));
        sound = alone.sound;
        sizes = sizes_then a b c so_far.sizes (alone_sizes b c cache (page_after page k) one.released alone);
        room = omega (arith, so_far.room, alone_room b c cache (page_after page k) one.released alone);
        in_turn = (b, so_far.in_turn, one);
      }

  -- pages that are retired one after the other are retired
  pub all_retired : IsSound a → (k : ℕ) (b : Arena) → AreRetiredBare a b cache page k → AreRetired a b cache page k
  all_retired sound zero b is = subst (λ x. AreRetired a x cache page 0) (sym is) (none_retired sound)
  all_retired sound (suc k) b is = one_more is.0 b k (all_retired sound k is.0 is.1) is.2

-- a page whose node is known
pub retired_bare : (a b : Arena) (n : NodeId) (cache : CacheId) (page : PageNo) (r : Released) → node_at a cache.0 page.0 ≡ Some n → IsEmpty (own_of a n) → IsRetiredAlone a b cache page r → IsRetiredBare a b cache page
retired_bare a b n cache page r at empty alone = record {
  released = r;
  alone = alone;
  empty = λ m is. (let two : Some n ≡ Some m = sym at ∙ is in let same : n ≡ m = cc two in subst (λ k. IsEmpty (own_of a k)) same empty);
}

-- a step that retired many
pub retired_step : (a b : Arena) (extent : Extent) (done count : ℕ) → IsRetiredAtOnce a b extent done count → IsRetireStep a b extent done (record { pages = count; released = Nothing })
retired_step a b extent done count all = record {
  forest = all.forest;
  sound = all.sound;
  sizes = all.sizes;
  room = all.room;
  how = inl (refl, all);
}
