-- Copies of pages, one behind the other.
use Rattle.std.proofs.Common.{◌≡◌, ℕ, zero, suc, ◌+◌, ◌-◌, ◌*◌, ◌≤◌, Bool, List, [], refl, sym, ap, ◌∙◌, subst, arith}
use Rattle.vm_ids.specs.declared.node_name.NodeName.{NodeName}
use Rattle.vm_ids.specs.declared.numbers.CacheId.{CacheId}
use Rattle.vm_ids.specs.Forest.Commands.{copy_pages, page_name, page_pairs}
use Rattle.vm_ids.specs.Forest.Laws.Commands.{CanCopy}
use Rattle.vm_ids.specs.Forest.Laws.Linking.{ArePages}
use Rattle.vm_ids.specs.Forest.NameMap.{len}
use Rattle.vm_ids.specs.Forest.Nodes.{Forest, IsNode}
use Rattle.vm_ids.specs.Forest.Rules.{copy_page}
use Rattle.vm_ids.specs.Forest.Shape.{IsConsistent}
use Rattle.vm_ids.proofs.Forest.Laws.Copying.{later_can, still_can}
use Rattle.vm_ids.proofs.Forest.Lengths.{copy_page_len, copy_page_stays}
use Rattle.vm_ids.proofs.Forest.Made.{copy_page-made}
use Rattle.vm_ids.proofs.Forest.OnePage.{copy_page-consistent}
use Rattle.vm_ids.proofs.Forest.Pairs.{pairs_start}
use Rattle.local_cache.specs.declared.own_state.OwnState.{OwnState}
use Rattle.local_cache.specs.Arena.{Arena}
use Rattle.local_cache.specs.Reading.{forest_of}
use Rattle.local_cache.specs.Sound.{IsSound}
use Rattle.local_cache.proofs.Changes.SameNodes.{forest_of-made}
use Rattle.residency.specs.declared.store.Store.{Store}
use Rattle.residency.specs.Seeing.{frame_forest}
use Rattle.residency.specs.StoreForest.{store_forest}
use Rattle.residency.specs.World.{world}
use Rattle.page_commands.specs.Commands.{Grows}
use Rattle.page_commands.specs.Homes.{AreUnclean}
use Rattle.page_commands.specs.Readings.{GoesBy}
use Rattle.page_commands.specs.Steps.{AreUnpinned, IsStoreTied, Releases}
use Rattle.page_commands.proofs.TiedStores.Kept.{kept_both, kept_none, unclean_kept, unpinned_kept}

-- One page was copied, from one name to another: no frame and no slot was taken, and there are at
-- most two nodes more.
pub record CopiesPage (is_small : Bool) (to from : NodeName) (s : Store) (a : Arena) (t : Store) (b : Arena) : Type 0 where
  pub rule : GoesBy (λ P put f. copy_page is_small f to from) s a t b
  pub kept : Releases [] s a t b
  pub grows : Grows 2 a b

-- So many pages were, one after the other.
pub record CopiesPages (is_small : Bool) (from : CacheId) (from_page : ℕ) (to : CacheId) (to_page count : ℕ) (s : Store) (a : Arena) (t : Store) (b : Arena) : Type 0 where
  pub rule : GoesBy (λ P put f. copy_pages is_small (page_pairs from from_page to to_page count) f) s a t b
  pub kept : Releases [] s a t b
  pub grows : Grows (2 * count) a b

-- How many nodes there are

pub grown_none : (a : Arena) → IsConsistent (forest_of a) → Grows 0 a a
grown_none a consistent = record { consistent = consistent; stays = λ x is. is; made = omega arith; room = omega arith; few = omega arith }

pub grown_then : (m n : ℕ) (a b c : Arena) → Grows m a b → Grows n b c → Grows (m + n) a c
grown_then m n a b c f g = record {
  consistent = g.consistent;
  stays = λ x is. g.stays x (f.stays x is);
  made = omega (arith, f.made, g.made);
  room = omega (arith, f.room, g.room);
  few = omega (arith, f.few, g.few);
}

pub grown_page : (is_small : Bool) (a b : Arena) (d s : NodeName) → IsConsistent (forest_of a) → ArePages (forest_of a) d s → forest_of b ≡ copy_page is_small (forest_of a) d s → a.room.nodes ≤ b.room.nodes + 2 → Grows 2 a b
grown_page is_small a b d s consistent pages is room =
    let f : Forest OwnState = forest_of a in
    record {
      consistent = subst IsConsistent (sym is) (copy_page-consistent f consistent d s pages is_small);
      stays = λ x there. subst (λ g. IsNode g x) (sym is) (copy_page_stays f consistent d s pages is_small x there);
      made = omega (arith, copy_page-made f is_small d s, forest_of-made b, forest_of-made a, ap (λ (g : Forest OwnState). g.made) is);
      room = room;
      few = omega (arith, copy_page_len f consistent d s pages is_small, ap (λ (g : Forest OwnState). len g.nodes) is);
    }

-- Parts of a copy

-- the pages from one on, behind those before it
pages_joined : {P : Type 0} (is_small : Bool) (c : CacheId) (p : ℕ) (d : CacheId) (q m n : ℕ) (f : Forest P)
    → copy_pages is_small (page_pairs c (p + m) d (q + m) n) (copy_pages is_small (page_pairs c p d q m) f) ≡ copy_pages is_small (page_pairs c p d q (m + n)) f
pages_joined is_small c p d q zero n f =
    let from : p + 0 ≡ p = omega arith in
    let to : q + 0 ≡ q = omega arith in
    let all : n ≡ 0 + n = omega arith in
    λ i. copy_pages is_small (page_pairs c (from i) d (to i) (all i)) f
pages_joined is_small c p d q (suc m) n f =
    let from : p + suc m ≡ p + 1 + m = omega arith in
    let to : q + suc m ≡ q + 1 + m = omega arith in
    let all : suc (m + n) ≡ suc m + n = omega arith in
    (λ i. copy_pages is_small (page_pairs c (from i) d (to i) n) (copy_pages is_small (page_pairs c p d q (suc m)) f))
    ∙ pages_joined is_small c (p + 1) d (q + 1) m n (copy_page is_small f (page_name d q) (page_name c p))
    ∙ ap (λ k. copy_pages is_small (page_pairs c p d q k) f) all

pub copies_none : (is_small : Bool) (c : CacheId) (p : ℕ) (d : CacheId) (q : ℕ) (s : Store) (a : Arena) → IsSound a → IsConsistent (forest_of a) → IsStoreTied s a → CopiesPages is_small c p d q 0 s a s a
copies_none is_small c p d q s a sound consistent tied = record {
  rule = record { nodes = refl; forest = λ told size fit. refl; frames = refl };
  kept = kept_none [] s a sound tied;
  grows = grown_none a consistent;
}

pub copies_one : (is_small : Bool) (c : CacheId) (p : ℕ) (d : CacheId) (q : ℕ) (s : Store) (a : Arena) (t : Store) (b : Arena) → CopiesPage is_small (page_name d q) (page_name c p) s a t b → CopiesPages is_small c p d q 1 s a t b
copies_one is_small c p d q s a t b one = record {
  rule = record { nodes = one.rule.nodes; forest = one.rule.forest; frames = one.rule.frames };
  kept = one.kept;
  grows = one.grows;
}

module _ (is_small : Bool) (c : CacheId) (p : ℕ) (d : CacheId) (q m n : ℕ) (s : Store) (a : Arena) (t : Store) (b : Arena) (u : Store) (e : Arena) where
  pub copies_then : IsStoreTied s a → CopiesPages is_small c p d q m s a t b → CopiesPages is_small c (p + m) d (q + m) n t b u e → CopiesPages is_small c p d q (m + n) s a u e
  copies_then tied f g =
      let twice : 2 * m + 2 * n ≡ 2 * (m + n) = omega arith in
      record {
        rule = record {
          nodes = g.rule.nodes ∙ ap (copy_pages is_small (page_pairs c (p + m) d (q + m) n)) f.rule.nodes ∙ pages_joined is_small c p d q m n (forest_of a);
          forest = λ told size fit.
              g.rule.forest told size (f.kept.gives_back told size fit).tied
              ∙ ap (copy_pages is_small (page_pairs c (p + m) d (q + m) n)) (f.rule.forest told size fit)
              ∙ pages_joined is_small c p d q m n (store_forest (world told size a s));
          frames = g.rule.frames ∙ ap (copy_pages is_small (page_pairs c (p + m) d (q + m) n)) f.rule.frames ∙ pages_joined is_small c p d q m n (frame_forest a s.map);
        };
        kept = kept_both s a t b u e tied f.kept g.kept;
        grows = subst (λ k. Grows k a e) twice (grown_then (2 * m) (2 * n) a b e f.grows g.grows);
      }

-- one page more
pub copies_more : (is_small : Bool) (c : CacheId) (p : ℕ) (d : CacheId) (q k : ℕ) (s : Store) (a : Arena) (t : Store) (b : Arena) (u : Store) (e : Arena)
    → IsStoreTied s a → CopiesPages is_small c p d q k s a t b → CopiesPage is_small (page_name d (q + k)) (page_name c (p + k)) t b u e → CopiesPages is_small c p d q (k + 1) s a u e
copies_more is_small c p d q k s a t b u e tied so_far one = copies_then is_small c p d q k 1 s a t b u e tied so_far (copies_one is_small c (p + k) d (q + k) t b u e one)

-- What is left of a copy

pub pairs_left_can : {P : Type 0} (f : Forest P) (c : CacheId) (p : ℕ) (d : CacheId) (q n k : ℕ) → k ≤ n → CanCopy f (page_pairs c p d q n) → CanCopy f (page_pairs c (p + k) d (q + k) (n - k))
pairs_left_can f c p d q n zero le can = subst (CanCopy f) (pairs_start c p d q n) can
pairs_left_can f c p d q zero (suc k) le can = absurd (omega arith)
pairs_left_can f c p d q (suc n) (suc k) le can =
    let from : p + 1 + k ≡ p + suc k = omega arith in
    let to : q + 1 + k ≡ q + suc k = omega arith in
    let left : n - k ≡ suc n - suc k = omega arith in
    subst (CanCopy f) (λ i. page_pairs c (from i) d (to i) (left i))
    (pairs_left_can f c (p + 1) d (q + 1) n k (omega arith) (later_can f (page_name d q, page_name c p) (page_pairs c (p + 1) d (q + 1) n) can))

module _ (is_small : Bool) (c : CacheId) (p : ℕ) (d : CacheId) (q k : ℕ) (s : Store) (a : Arena) (t : Store) (b : Arena) (so_far : CopiesPages is_small c p d q k s a t b) where
  pub left_can : (n : ℕ) → k ≤ n → CanCopy (forest_of a) (page_pairs c p d q n) → CanCopy (forest_of b) (page_pairs c (p + k) d (q + k) (n - k))
  left_can n le can =
      still_can (forest_of a) (forest_of b) (page_pairs c (p + k) d (q + k) (n - k)) (λ x live is. so_far.grows.stays x is) (pairs_left_can (forest_of a) c p d q n k le can)

  pub left_unpinned : (names : List NodeName) → IsStoreTied s a → AreUnpinned s a names → AreUnpinned t b names
  left_unpinned names tied out x i = unpinned_kept [] s a t b tied so_far.kept x (out x i)

  pub left_unclean : (names : List NodeName) → IsStoreTied s a → AreUnclean a names → AreUnclean b names
  left_unclean names tied unclean x i = unclean_kept [] s a t b tied so_far.kept x (λ j. j) (unclean x i)
