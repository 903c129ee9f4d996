-- The translations of the frames that fell free are dropped.
use Rattle.std.proofs.Common.{◌≡◌, ℕ, ◌<◌, ◌==◌, ◌||◌, Bool, true, false, ◌&&◌, List, get_or, length, set, Option, Some, None, is_some, refl, sym, ap, ◌∙◌, inl, inr, arith}
use Rattle.std.specs.Prelude.{is_none, map}
use Rattle.std.proofs.lemmas.Bool.{cases_eq}
use Rattle.std.proofs.lemmas.List.{get_or-set_same, get_or-set_other}
use Rattle.std.proofs.lemmas.List.Sums.{passes_at_first}
use Rattle.vm_ids.specs.declared.numbers.NodeId.{NodeId}
use Rattle.vm_ids.proofs.Places.{other_number, same_number, some_place}
use Rattle.frame_pool.specs.Pool.{is_pinned}
use Rattle.global_map.specs.Pairs.{bound_times, frame_of, is_node, node_of}
use Rattle.page_tables.specs.Entries.{is_in_frame}
use Rattle.page_tables.specs.Translations.{unless}
use Rattle.residency.specs.World.{IsTied, World, is_bound}
use Rattle.residency.specs.Translating.{without}
use Rattle.residency.specs.declared.store.Store.{Store}
use Rattle.residency.proofs.Translations.Dropped.{twice, without_as, without_none}
use Rattle.page_commands.specs.Steps.{GivesBack}
use Rattle.page_commands.specs.Translating.{DropsFreed, freed}
use Rattle.page_commands.proofs.NodesGone.Passed.{node_is}

-- Nothing fell free

freed_same : (x : Option NodeId) → (is_some x && is_none x) ≡ false
freed_same None = refl
freed_same (Some n) = refl

-- where no frame lost its node
pub none_freed : (s t : Store) → ((f : ℕ) → freed s.map t.map f ≡ false) → t.tables ≡ s.tables → DropsFreed s t
none_freed s t none tables = tables ∙ sym (without_none s.tables) ∙ without_as (λ f. false) (freed s.map t.map) s.tables (λ f. sym (none f))

pub same_freed : (s t : Store) → t.map ≡ s.map → t.tables ≡ s.tables → DropsFreed s t
same_freed s t map tables = none_freed s t (λ f. ap (λ (m : List (Option NodeId)). freed s.map m f) map ∙ freed_same (node_of s.map f)) tables

-- One frame lost its node

-- a node that is bound stands at its frame
pub stands : (m : List (Option NodeId)) (n : NodeId) → bound_times m n.0 ≡ 1 → (frame_of m n.0 < length m) × (node_of m (frame_of m n.0) ≡ Some n)
stands m n once =
    let within : frame_of m n.0 < length m = some_place (is_node n.0) m (omega (arith, once)) in
    (within, node_is n (get_or m (frame_of m n.0) None) (passes_at_first (is_node n.0) m None within))

emptied_at : (m : List (Option NodeId)) (f : ℕ) (n : NodeId) → f < length m → node_of m f ≡ Some n → (g : ℕ) → freed m (set m f None) g ≡ (g == f)
emptied_at m f n within at g = elim (cases_eq g f) [
  | inl e ↦ (
      let gone : node_of (set m f None) g ≡ None = ap (λ (k : ℕ). node_of (set m f None) k) e ∙ get_or-set_same m f None None within in
      let had : node_of m g ≡ Some n = ap (node_of m) e ∙ at in
      (λ i. is_some (had i) && is_none (gone i)) ∙ sym (ap (λ (k : ℕ). k == f) e ∙ same_number f))
  | inr d ↦ ap (λ (x : Option NodeId). is_some (node_of m g) && is_none x) (get_or-set_other m f g None None d) ∙ freed_same (node_of m g) ∙ sym (other_number g f d)
]

-- it is given back
pub emptied_freed : (s t : Store) (n : NodeId) → bound_times s.map n.0 ≡ 1 → t.map ≡ set s.map (frame_of s.map n.0) None → t.tables ≡ map (unless (is_in_frame (frame_of s.map n.0))) s.tables → DropsFreed s t
emptied_freed s t n once gone tables =
    let f = frame_of s.map n.0 in
    let at = stands s.map n once in
    tables ∙ without_as (λ g. g == f) (freed s.map t.map) s.tables (λ g. sym (ap (λ (m : List (Option NodeId)). freed s.map m g) gone ∙ emptied_at s.map f n at.0 at.1 g))

rekeyed_at : (m : List (Option NodeId)) (f : ℕ) (n to : NodeId) → f < length m → node_of m f ≡ Some n → (g : ℕ) → freed m (set m f (Some to)) g ≡ false
rekeyed_at m f n to within at g = elim (cases_eq g f) [
  | inl e ↦ (
      let now : node_of (set m f (Some to)) g ≡ Some to = ap (λ (k : ℕ). node_of (set m f (Some to)) k) e ∙ get_or-set_same m f (Some to) None within in
      let had : node_of m g ≡ Some n = ap (node_of m) e ∙ at in
      λ i. is_some (had i) && is_none (now i))
  | inr d ↦ ap (λ (x : Option NodeId). is_some (node_of m g) && is_none x) (get_or-set_other m f g (Some to) None d) ∙ freed_same (node_of m g)
]

-- it is another node's
pub rekeyed_freed : (s t : Store) (n to : NodeId) → bound_times s.map n.0 ≡ 1 → t.map ≡ set s.map (frame_of s.map n.0) (Some to) → t.tables ≡ s.tables → DropsFreed s t
rekeyed_freed s t n to once now tables =
    let at = stands s.map n once in
    none_freed s t (λ g. ap (λ (m : List (Option NodeId)). freed s.map m g) now ∙ rekeyed_at s.map (frame_of s.map n.0) n to at.0 at.1 g) tables

-- One after the other

-- each frame that has a node had one
pub bound_was : (old new : World) → IsTied old → GivesBack old new → (f : ℕ) → is_bound new f ≡ true → is_bound old f ≡ true
bound_was old new tied gives f bound = go (is_pinned old.frames f) refl
  where
    had : (is_bound old f || is_pinned old.frames f) ≡ true
    had = sym (tied.placed.held f) ∙ gives.held f (gives.tied.placed.held f ∙ ap (λ (t : Bool). t || is_pinned new.frames f) bound)

    go : (t : Bool) → is_pinned old.frames f ≡ t → is_bound old f ≡ true
    go true e = ap is_some (sym (gives.pinned f e).node) ∙ bound
    go false e = sym (or_false (is_bound old f)) ∙ ap (λ (t : Bool). is_bound old f || t) (sym e) ∙ had
      where
        or_false : (b : Bool) → (b || false) ≡ b
        or_false true = refl
        or_false false = refl

freed_then : (x y z : Option NodeId) → (is_some y ≡ true → is_some x ≡ true) → (is_some z ≡ true → is_some y ≡ true) → ((is_some x && is_none y) || (is_some y && is_none z)) ≡ (is_some x && is_none z)
freed_then None None z p q = refl
freed_then None (Some m) z p q = absurd (let clash : false ≡ true = p refl in cc clash)
freed_then (Some n) None None p q = refl
freed_then (Some n) None (Some k) p q = absurd (let clash : false ≡ true = q refl in cc clash)
freed_then (Some n) (Some m) z p q = refl

pub drops_then : (s t u : Store) → ((f : ℕ) → is_some (node_of t.map f) ≡ true → is_some (node_of s.map f) ≡ true) → ((f : ℕ) → is_some (node_of u.map f) ≡ true → is_some (node_of t.map f) ≡ true) → DropsFreed s t → DropsFreed t u → DropsFreed s u
drops_then s t u first second p q =
    q ∙ ap (without (freed t.map u.map)) p ∙ twice (freed s.map t.map) (freed t.map u.map) s.tables
    ∙ without_as (λ f. freed s.map t.map f || freed t.map u.map f) (freed s.map u.map) s.tables (λ f. freed_then (node_of s.map f) (node_of t.map f) (node_of u.map f) (first f) (second f))
