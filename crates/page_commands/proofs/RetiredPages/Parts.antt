-- Pages that are retired, one behind the other.
use Rattle.std.proofs.Common.{◌≡◌, ℕ, zero, suc, ◌+◌, ◌-◌, ◌<◌, ◌≤◌, List, [], length, refl, ap, ◌∙◌, subst, inl, arith}
use Rattle.vm_ids.specs.declared.node_name.NodeName.{NodeName}
use Rattle.vm_ids.specs.declared.numbers.CacheId.{CacheId}
use Rattle.vm_ids.specs.Forest.Commands.{page_name, page_names, retire_all}
use Rattle.vm_ids.specs.Forest.Laws.Commands.{ArePagesOnce}
use Rattle.vm_ids.specs.Forest.NameLists.{◌∈◌}
use Rattle.vm_ids.specs.Forest.NameMap.{len}
use Rattle.vm_ids.specs.Forest.Nodes.{Forest, IsNode}
use Rattle.vm_ids.specs.Forest.Rules.{retire}
use Rattle.vm_ids.specs.Forest.Shape.{IsConsistent}
use Rattle.vm_ids.proofs.Forest.Laws.Copying.{still_pages}
use Rattle.vm_ids.proofs.Forest.Laws.Commands.{later_pages}
use Rattle.vm_ids.proofs.Forest.Lengths.{retire_len}
use Rattle.vm_ids.proofs.Forest.Made.{retire-made}
use Rattle.vm_ids.proofs.Forest.OneDetached.{retire-consistent, retired}
use Rattle.local_cache.specs.Arena.{Arena}
use Rattle.local_cache.specs.Own.{own_states}
use Rattle.local_cache.specs.Reading.{forest_of}
use Rattle.local_cache.specs.Sound.{IsSound}
use Rattle.residency.specs.declared.store.Store.{Store}
use Rattle.residency.specs.Seeing.{frame_forest}
use Rattle.residency.specs.StoreForest.{store_forest}
use Rattle.residency.specs.World.{world}
use Rattle.page_commands.specs.Readings.{GoesBy}
use Rattle.page_commands.specs.Steps.{IsStoreTied, Releases}
use Rattle.page_commands.proofs.Forgotten.Range.{in_range, names_start}
use Rattle.page_commands.proofs.TiedStores.Kept.{kept_both, kept_none}

-- One page was retired: no room was taken, and there are no more own pages.
pub record RetiresPage (x : NodeName) (s : Store) (a : Arena) (t : Store) (b : Arena) : Type 0 where
  pub rule : GoesBy (λ P put f. retire f x) s a t b
  pub kept : Releases [] s a t b
  pub room : a.room.nodes ≤ b.room.nodes
  pub fewer : length (own_states b) ≤ length (own_states a)

-- So many pages were, one after the other.
pub record RetiresPages (cache : CacheId) (page count : ℕ) (s : Store) (a : Arena) (t : Store) (b : Arena) : Type 0 where
  pub rule : GoesBy (λ P put f. retire_all (page_names cache page count) f) s a t b
  pub kept : Releases [] s a t b
  pub room : a.room.nodes ≤ b.room.nodes
  pub fewer : length (own_states b) ≤ length (own_states a)

-- Parts of a range

-- the pages from one on, behind those before it
pages_joined : {P : Type 0} (c : CacheId) (p m n : ℕ) (f : Forest P) → retire_all (page_names c (p + m) n) (retire_all (page_names c p m) f) ≡ retire_all (page_names c p (m + n)) f
pages_joined c p zero n f =
    let from : p + 0 ≡ p = omega arith in
    let all : n ≡ 0 + n = omega arith in
    λ i. retire_all (page_names c (from i) (all i)) f
pages_joined c p (suc m) n f =
    let from : p + suc m ≡ p + 1 + m = omega arith in
    let all : suc (m + n) ≡ suc m + n = omega arith in
    (λ i. retire_all (page_names c (from i) n) (retire_all (page_names c p (suc m)) f))
    ∙ pages_joined c (p + 1) m n (retire f (page_name c p))
    ∙ ap (λ k. retire_all (page_names c p k) f) all

pub retires_none : (c : CacheId) (p : ℕ) (s : Store) (a : Arena) → IsSound a → IsStoreTied s a → RetiresPages c p 0 s a s a
retires_none c p s a sound tied = record {
  rule = record { nodes = refl; forest = λ told size fit. refl; frames = refl };
  kept = kept_none [] s a sound tied;
  room = omega arith;
  fewer = omega arith;
}

pub retires_one : (c : CacheId) (p : ℕ) (s : Store) (a : Arena) (t : Store) (b : Arena) → RetiresPage (page_name c p) s a t b → RetiresPages c p 1 s a t b
retires_one c p s a t b one = record {
  rule = record { nodes = one.rule.nodes; forest = one.rule.forest; frames = one.rule.frames };
  kept = one.kept;
  room = one.room;
  fewer = one.fewer;
}

module _ (c : CacheId) (p m n : ℕ) (s : Store) (a : Arena) (t : Store) (b : Arena) (u : Store) (e : Arena) where
  pub retires_then : IsStoreTied s a → RetiresPages c p m s a t b → RetiresPages c (p + m) n t b u e → RetiresPages c p (m + n) s a u e
  retires_then tied f g = record {
    rule = record {
      nodes = g.rule.nodes ∙ ap (retire_all (page_names c (p + m) n)) f.rule.nodes ∙ pages_joined c p m n (forest_of a);
      forest = λ told size fit.
          g.rule.forest told size (f.kept.gives_back told size fit).tied
          ∙ ap (retire_all (page_names c (p + m) n)) (f.rule.forest told size fit)
          ∙ pages_joined c p m n (store_forest (world told size a s));
      frames = g.rule.frames ∙ ap (retire_all (page_names c (p + m) n)) f.rule.frames ∙ pages_joined c p m n (frame_forest a s.map);
    };
    kept = kept_both s a t b u e tied f.kept g.kept;
    room = omega (arith, f.room, g.room);
    fewer = omega (arith, f.fewer, g.fewer);
  }

-- one page more
pub retires_more : (c : CacheId) (p k : ℕ) (s : Store) (a : Arena) (t : Store) (b : Arena) (u : Store) (e : Arena)
    → IsStoreTied s a → RetiresPages c p k s a t b → RetiresPage (page_name c (p + k)) t b u e → RetiresPages c p (k + 1) s a u e
retires_more c p k s a t b u e tied so_far one = retires_then c p k 1 s a t b u e tied so_far (retires_one c (p + k) t b u e one)

-- What is left of a range

-- From f to g so many pages of a range are retired: the others are there still.
pub record PagesLeft {P : Type 0} (f g : Forest P) (c : CacheId) (p n k : ℕ) : Type 0 where
  pub consistent : IsConsistent g
  pub pages : ArePagesOnce g (page_names c (p + k) (n - k))
  pub few : len g.nodes ≤ len f.nodes
  pub made : g.made ≤ f.made + k

pub pages_left : {P : Type 0} (f : Forest P) → IsConsistent f → (c : CacheId) (p n k : ℕ) → k ≤ n → ArePagesOnce f (page_names c p n) → PagesLeft f (retire_all (page_names c p k) f) c p n k
pages_left f consistent c p n zero le pages = record {
  consistent = consistent;
  pages = subst (ArePagesOnce f) (names_start c p n) pages;
  few = omega arith;
  made = omega arith;
}
pages_left f consistent c p zero (suc k) le pages = absurd (omega arith)
pages_left f consistent c p (suc n) (suc k) le pages =
    let x = page_name c p in
    let xs : List NodeName = page_names c (p + 1) n in
    let is : IsNode f x = (pages.live x (inl refl)).0 in
    let still : ArePagesOnce (retire f x) xs = still_pages f (retire f x) xs
    (λ y j there. (retired f consistent x is refl).stays y there (λ e. pages.once.0 (subst (λ z. z ∈ xs) e j)))
    (later_pages f x xs pages) in
    let left = pages_left (retire f x) (retire-consistent f consistent x is refl) c (p + 1) n k (omega arith) still in
    let from : p + 1 + k ≡ p + suc k = omega arith in
    let many : n - k ≡ suc n - suc k = omega arith in
    record {
      consistent = left.consistent;
      pages = subst (ArePagesOnce (retire_all (page_names c (p + 1) k) (retire f x))) (λ i. page_names c (from i) (many i)) left.pages;
      few = omega (arith, left.few, retire_len f consistent x is refl);
      made = omega (arith, left.made, retire-made f x);
    }

-- the next page has a node
pub next_there : {P : Type 0} (f g : Forest P) (c : CacheId) (p n k : ℕ) → k < n → PagesLeft f g c p n k → IsNode g (page_name c (p + k))
next_there f g c p n k low left =
    let first : p + k + 0 ≡ p + k = omega arith in
    subst (λ i. IsNode g (page_name c i)) first (left.pages.live _ (in_range c (p + k) (n - k) 0 (omega arith))).0
