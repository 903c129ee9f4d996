-- Moves of pages, one behind the other.
use Rattle.std.proofs.Common.{◌≡◌, ℕ, zero, suc, ◌+◌, ◌-◌, ◌≤◌, [], Option, None, refl, sym, ap, ◌∙◌, subst, arith}
use Rattle.std.specs.Prelude.{option_map, replicate}
use Rattle.vm_ids.specs.Held.{Held}
use Rattle.vm_ids.specs.declared.node_name.NodeName.{NodeName}
use Rattle.vm_ids.specs.declared.numbers.CacheId.{CacheId}
use Rattle.vm_ids.specs.Forest.Commands.{move_pages, page_name, page_pairs}
use Rattle.vm_ids.specs.Forest.Laws.Commands.{CanCopy}
use Rattle.vm_ids.specs.Forest.Laws.Linking.{ArePages}
use Rattle.vm_ids.specs.Forest.NameMap.{len}
use Rattle.vm_ids.specs.Forest.Nodes.{Forest, IsNode}
use Rattle.vm_ids.specs.Forest.Rules.{move_page}
use Rattle.vm_ids.specs.Forest.Shape.{IsConsistent}
use Rattle.vm_ids.proofs.Forest.Laws.Copying.{still_can}
use Rattle.vm_ids.proofs.Forest.Made.{move_page-made}
use Rattle.vm_ids.proofs.Forest.Moving.{move_page_len, move_page_stays}
use Rattle.vm_ids.proofs.Forest.OnePage.{move_page-consistent}
use Rattle.local_cache.specs.declared.own_state.OwnState.{OwnState}
use Rattle.local_cache.specs.declared.own_state.OwnState.TheVariants.{Zero}
use Rattle.local_cache.specs.Arena.{Arena}
use Rattle.local_cache.specs.Reading.{forest_of}
use Rattle.local_cache.specs.Sound.{IsSound}
use Rattle.local_cache.proofs.Changes.SameNodes.{forest_of-made}
use Rattle.residency.specs.declared.store.Store.{Store}
use Rattle.residency.specs.Seeing.{frame_forest}
use Rattle.residency.specs.StoreForest.{store_forest}
use Rattle.residency.specs.World.{IsTied, World, world}
use Rattle.page_commands.specs.Commands.{Grows}
use Rattle.page_commands.specs.Readings.{GoesBy}
use Rattle.page_commands.specs.Steps.{GivesBack, IsStoreTied, Releases, zeros_told}
use Rattle.page_commands.specs.Translating.{DropsFreed}
use Rattle.page_commands.proofs.CopiedPages.Parts.{grown_none, grown_then, pairs_left_can}
use Rattle.page_commands.proofs.TiedStores.Kept.{gives_none, kept_both, kept_none}

-- One page was moved, from one name to another: no frame and no slot was taken, and there is at
-- most one node more.
pub record MovesPage (to from : NodeName) (s : Store) (a : Arena) (t : Store) (b : Arena) : Type 0 where
  pub rule : GoesBy (λ P put f. move_page f to from put.zeros) s a t b
  pub kept : Releases [] s a t b
  pub grows : Grows 1 a b

-- So many pages were, one after the other.
pub record MovesPages (from : CacheId) (from_page : ℕ) (to : CacheId) (to_page count : ℕ) (s : Store) (a : Arena) (t : Store) (b : Arena) : Type 0 where
  pub rule : GoesBy (λ P put f. move_pages put.zeros (page_pairs from from_page to to_page count) f) s a t b
  pub kept : Releases [] s a t b
  pub grows : Grows count a b

-- How many nodes there are

pub grown_page : (a b : Arena) (d s : NodeName) → IsConsistent (forest_of a) → ArePages (forest_of a) d s → forest_of b ≡ move_page (forest_of a) d s Zero → a.room.nodes ≤ b.room.nodes + 1 → Grows 1 a b
grown_page a b d s consistent pages is room =
    let f : Forest OwnState = forest_of a in
    record {
      consistent = subst IsConsistent (sym is) (move_page-consistent f consistent d s pages Zero);
      stays = λ x there. subst (λ g. IsNode g x) (sym is) (move_page_stays f consistent d s pages Zero x there);
      made = omega (arith, move_page-made f d s Zero, forest_of-made b, forest_of-made a, ap (λ (g : Forest OwnState). g.made) is);
      room = room;
      few = omega (arith, move_page_len f consistent d s pages Zero, ap (λ (g : Forest OwnState). len g.nodes) is);
    }

-- Parts of a move

-- the pages from one on, behind those before it
pages_joined : {P : Type 0} (zeros : P) (c : CacheId) (p : ℕ) (d : CacheId) (q m n : ℕ) (f : Forest P)
    → move_pages zeros (page_pairs c (p + m) d (q + m) n) (move_pages zeros (page_pairs c p d q m) f) ≡ move_pages zeros (page_pairs c p d q (m + n)) f
pages_joined zeros c p d q zero n f =
    let from : p + 0 ≡ p = omega arith in
    let to : q + 0 ≡ q = omega arith in
    let all : n ≡ 0 + n = omega arith in
    λ i. move_pages zeros (page_pairs c (from i) d (to i) (all i)) f
pages_joined zeros c p d q (suc m) n f =
    let from : p + suc m ≡ p + 1 + m = omega arith in
    let to : q + suc m ≡ q + 1 + m = omega arith in
    let all : suc (m + n) ≡ suc m + n = omega arith in
    (λ i. move_pages zeros (page_pairs c (from i) d (to i) n) (move_pages zeros (page_pairs c p d q (suc m)) f))
    ∙ pages_joined zeros c (p + 1) d (q + 1) m n (move_page f (page_name d q) (page_name c p) zeros)
    ∙ ap (λ k. move_pages zeros (page_pairs c p d q k) f) all

pub moves_none : (c : CacheId) (p : ℕ) (d : CacheId) (q : ℕ) (s : Store) (a : Arena) → IsSound a → IsConsistent (forest_of a) → IsStoreTied s a → MovesPages c p d q 0 s a s a
moves_none c p d q s a sound consistent tied = record {
  rule = record { nodes = refl; forest = λ told size fit. refl; frames = refl };
  kept = kept_none [] s a sound tied;
  grows = grown_none a consistent;
}

pub moves_one : (c : CacheId) (p : ℕ) (d : CacheId) (q : ℕ) (s : Store) (a : Arena) (t : Store) (b : Arena) → MovesPage (page_name d q) (page_name c p) s a t b → MovesPages c p d q 1 s a t b
moves_one c p d q s a t b one = record {
  rule = record { nodes = one.rule.nodes; forest = one.rule.forest; frames = one.rule.frames };
  kept = one.kept;
  grows = one.grows;
}

module _ (c : CacheId) (p : ℕ) (d : CacheId) (q m n : ℕ) (s : Store) (a : Arena) (t : Store) (b : Arena) (u : Store) (e : Arena) where
  pub moves_then : IsStoreTied s a → MovesPages c p d q m s a t b → MovesPages c (p + m) d (q + m) n t b u e → MovesPages c p d q (m + n) s a u e
  moves_then tied f g = record {
    rule = record {
      nodes = g.rule.nodes ∙ ap (move_pages Zero (page_pairs c (p + m) d (q + m) n)) f.rule.nodes ∙ pages_joined Zero c p d q m n (forest_of a);
      forest = λ told size fit.
          let one = f.kept.gives_back told size fit in
          let zeros : zeros_told (world told size b t) ≡ zeros_told (world told size a s) = ap (λ (k : ℕ). option_map (λ _. replicate k 0) told) one.page in
          g.rule.forest told size one.tied
          ∙ ap (λ z. move_pages z (page_pairs c (p + m) d (q + m) n) (store_forest (world told size b t))) zeros
          ∙ ap (move_pages (zeros_told (world told size a s)) (page_pairs c (p + m) d (q + m) n)) (f.rule.forest told size fit)
          ∙ pages_joined (zeros_told (world told size a s)) c p d q m n (store_forest (world told size a s));
      frames = g.rule.frames ∙ ap (move_pages None (page_pairs c (p + m) d (q + m) n)) f.rule.frames ∙ pages_joined None c p d q m n (frame_forest a s.map);
    };
    kept = kept_both s a t b u e tied f.kept g.kept;
    grows = grown_then m n a b e f.grows g.grows;
  }

-- one page more
pub moves_more : (c : CacheId) (p : ℕ) (d : CacheId) (q k : ℕ) (s : Store) (a : Arena) (t : Store) (b : Arena) (u : Store) (e : Arena)
    → IsStoreTied s a → MovesPages c p d q k s a t b → MovesPage (page_name d (q + k)) (page_name c (p + k)) t b u e → MovesPages c p d q (k + 1) s a u e
moves_more c p d q k s a t b u e tied so_far one = moves_then c p d q k 1 s a t b u e tied so_far (moves_one c (p + k) d (q + k) t b u e one)

-- where nothing was released, the store that followed is as good as the one before
pub moves_still : (c : CacheId) (p : ℕ) (d : CacheId) (q n : ℕ) (s : Store) (a : Arena) (b : Arena) (t : Store) → IsStoreTied s a → MovesPages c p d q n s a s b
    → ((told : Option Held) (size : Option ℕ) → world told size b t ≡ world told size b s) → DropsFreed s t → MovesPages c p d q n s a t b
moves_still c p d q n s a b t tied moves same tables =
    let still : Releases [] s b t b = record {
      gives_back = λ told size fit. subst (GivesBack (world told size b s)) (sym (same told size)) (gives_none (world told size b s) fit);
      tables = tables;
      sound = moves.kept.sound;
      tied = subst IsTied (sym (same None None)) moves.kept.tied;
      pinned = (kept_none [] s b moves.kept.sound moves.kept.tied).pinned;
      sizes = (kept_none [] s b moves.kept.sound moves.kept.tied).sizes;
      homes = (kept_none [] s b moves.kept.sound moves.kept.tied).homes;
    } in
    record {
      rule = record {
        nodes = moves.rule.nodes;
        forest = λ told size fit. ap store_forest (same told size) ∙ moves.rule.forest told size fit;
        frames = ap (λ (w : World). frame_forest b w.map) (same None None) ∙ moves.rule.frames;
      };
      kept = kept_both s a s b t b tied moves.kept still;
      grows = moves.grows;
    }

-- What is left of a move

pub left_can : (c : CacheId) (p : ℕ) (d : CacheId) (q k n : ℕ) (s : Store) (a : Arena) (t : Store) (b : Arena) → MovesPages c p d q k s a t b → k ≤ n
    → CanCopy (forest_of a) (page_pairs c p d q n) → CanCopy (forest_of b) (page_pairs c (p + k) d (q + k) (n - k))
left_can c p d q k n s a t b so_far le can =
    still_can (forest_of a) (forest_of b) (page_pairs c (p + k) d (q + k) (n - k)) (λ x live is. so_far.grows.stays x is) (pairs_left_can (forest_of a) c p d q n k le can)
