-- Which translations are dropped where a node gets a page of its own.
use Rattle.std.proofs.Common.{◌≡◌, ◌≢◌, ◌⊎◌, ℕ, ◌<◌, ◌||◌, Bool, true, false, List, length, set, Option, Some, None, Result, Ok, Err, refl, sym, ap, ◌∙◌, subst, inl, inr}
use Rattle.std.specs.Prelude.{IsErrAnd}
use Rattle.std.proofs.lemmas.Bool.{cases_eq, false≢true}
use Rattle.std.proofs.lemmas.List.{get_or-set_same, get_or-set_other, length-map}
use Rattle.vm_ids.specs.declared.numbers.NodeId.{NodeId}
use Rattle.vm_ids.specs.Held.{Held}
use Rattle.vm_ids.proofs.Places.{same_number}
use Rattle.global_map.specs.Pairs.{is_node, node_of}
use Rattle.global_map.proofs.Places.{the_node}
use Rattle.page_tables.specs.Translations.{unless}
use Rattle.local_cache.specs.Arena.{Arena}
use Rattle.local_cache.specs.Own.{is_absent, own_of}
use Rattle.residency.specs.declared.store.Store.{Store}
use Rattle.residency.specs.Translating.{Drops, without}
use Rattle.residency.specs.World.{ArePlaced, world}
use Rattle.residency.proofs.Translations.Kept.{or_cases, seen_still}
use Rattle.fault_path.specs.Translating.{LeavesHomes, MayCome, is_home, is_home_of, without_homes}
use Rattle.fault_path.proofs.Rules.KeptOwners.{Passes}

or_left : (b c : Bool) → b ≡ true → (b || c) ≡ true
or_left b c h = ap (λ (x : Bool). x || c) h

-- Nodes come to frames, pages that another node than o owns keep their owners, and then the
-- translations that lead to the pages of o and n are dropped.
module _ (came : NodeId → Type 0) (a b : Arena) (s t : Store) (o n : NodeId) (was : ArePlaced a s.frames s.slots s.map) (is : ArePlaced b t.frames t.slots t.map) (passes : Passes a b o)
    (stays : (f : ℕ) (p : NodeId) → node_of s.map f ≡ Some p → node_of t.map f ≡ Some p) (comes : (f : ℕ) (p : NodeId) → node_of t.map f ≡ Some p → (node_of s.map f ≡ Some p) ⊎ came p) (first : came o) (second : came n) where
  not_owner : (f : ℕ) (p : NodeId) → is_home_of o n t.map f ≡ false → node_of s.map f ≡ Some p → p ≢ o
  not_owner f p kept at e =
      let there : node_of t.map f ≡ Some o = stays f p at ∙ ap (λ (m : NodeId). Some m) e in
      let here : is_home o t.map f ≡ true = ap (is_node o.0) there ∙ same_number o.0 in
      false≢true (sym kept ∙ or_left (is_home o t.map f) (is_home n t.map f) here)

  the_same : (f : ℕ) (p m : NodeId) → node_of s.map f ≡ Some p → is_home m t.map f ≡ true → came m → came p
  the_same f p m at here c =
      let e : Some m ≡ Some p = sym (the_node (node_of t.map f) m here) ∙ stays f p at in
      let q : m ≡ p = cc e in
      subst came q c

  pub given_drops : t.tables ≡ s.tables → Drops came a s b (without_homes o n t)
  given_drops tables = record {
    frames = is_home_of o n t.map;
    tables = ap (without (is_home_of o n t.map)) tables;
    seen = λ x f kept seen. seen_still a b s (without_homes o n t) was is x f (λ p owns at. (passes.keeps x p owns (not_owner f p kept at), stays f p at)) seen;
    alone = passes.alone;
    only = λ f p h at. inr (elim (or_cases (is_home o t.map f) (is_home n t.map f) h) [
      | inl here ↦ the_same f p o at here first
      | inr here ↦ the_same f p n at here second
    ]);
    comes = comes;
  }

-- the same where no node comes
pub forgot_drops : (came : NodeId → Type 0) (a : Arena) (s : Store) (o n : NodeId) → ArePlaced a s.frames s.slots s.map → came o → came n → Drops came a s a (without_homes o n s)
forgot_drops came a s o n placed first second = given_drops came a a s s o n placed placed (record { keeps = λ y w e apart. e; alone = λ y p. p }) (λ f p at. at) (λ f p at. inl at) first second refl

-- a node comes to a frame that had none
pub settled_stays : (m : List (Option NodeId)) (k : ℕ) (n : NodeId) → node_of m k ≡ None → (f : ℕ) (p : NodeId) → node_of m f ≡ Some p → node_of (set m k (Some n)) f ≡ Some p
settled_stays m k n free f p at = get_or-set_other m k f (Some n) None (λ e. absurd (let no : Some p ≡ None = sym at ∙ ap (node_of m) e ∙ free in cc no)) ∙ at

pub settled_comes : (m : List (Option NodeId)) (k : ℕ) (n : NodeId) → k < length m → (f : ℕ) (p : NodeId) → node_of (set m k (Some n)) f ≡ Some p → (node_of m f ≡ Some p) ⊎ (p ≡ n)
settled_comes m k n within f p at = elim (cases_eq f k) [
  | inl e ↦ inr (let same : Some p ≡ Some n = sym at ∙ ap (node_of (set m k (Some n))) e ∙ get_or-set_same m k (Some n) None within in cc same)
  | inr d ↦ inl (sym (get_or-set_other m k f (Some n) None d) ∙ at)
]

-- what a world says of tables is how many places they have
pub forgot_world : (told : Option Held) (size : Option ℕ) (caches : Arena) (s t : Store) (o n : NodeId) → t ≡ without_homes o n s → world told size caches t ≡ world told size caches s
forgot_world told size caches s t o n e = ap (λ (r : Store). world told size caches r) e
    ∙ (λ i. record (world told size caches s) { places = length-map s.tables (unless (λ e. is_home_of o n s.map e.to.frame.0)) i })

-- who had no own page may come
pub may_come : {X : Type 0} (a : Arena) (o n p : NodeId) → is_absent (own_of a n) ≡ true → X ⊎ (p ≡ n) → X ⊎ MayCome a o p
may_come a o n p absent c = elim c [
  | inl x ↦ inl x
  | inr e ↦ inr (inr (ap (λ (m : NodeId). is_absent (own_of a m)) e ∙ absent))
]

-- a call that failed left nothing to drop
pub failed_leaves : {T E : Type 0} (P : E → Type 0) (r : Result T E) (o n : NodeId) (a b : Arena) (s t : Store) → IsErrAnd r P → Drops (MayCome a o) a s b t → LeavesHomes r o n a s b t
failed_leaves P (Ok x) o n a b s t is drops = absurd is
failed_leaves P (Err e) o n a b s t is drops = record { left = tt; home = tt; failed = drops }
