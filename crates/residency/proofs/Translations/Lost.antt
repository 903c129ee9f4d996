-- Frames that lost their nodes from one moment to a later one, and the translations dropped by
-- then.
use Rattle.std.proofs.Common.{◌≡◌, ℕ, ◌<◌, ◌||◌, ◌==◌, Bool, true, false, not, List, [], ◌∷◌, length, zero, suc, set, Option, Some, None, is_some, refl, sym, ap, ◌∙◌, inl, inr, arith}
use Rattle.std.specs.Prelude.{Result, Ok, Err, OnErr, OnOk}
use Rattle.std.proofs.lemmas.Bool.{cases_eq}
use Rattle.std.proofs.lemmas.List.{get_or-set_same, get_or-set_other, get_or_past}
use Rattle.vm_ids.specs.declared.numbers.NodeId.{NodeId}
use Rattle.vm_ids.proofs.Places.{count_cons, none_passes, other_number, same_number}
use Rattle.global_map.specs.Pairs.{bound_times, is_node, node_of}
use Rattle.residency.specs.declared.store.Store.{Store}
use Rattle.residency.specs.Translating.{IsEmptied, TablesAfter, loses, lost, without}
use Rattle.residency.specs.World.{OthersStay, World}
use Rattle.residency.proofs.Translations.Dropped.{twice, without_as, without_none}

-- a frame that keeps its node, or none, loses nothing
pub loses_same : (x : Option NodeId) → loses x x ≡ false
loses_same None = refl
loses_same (Some n) = ap not (same_number n.0)

-- where the map and the tables are as they were
pub tables_same : (a b : Store) → b.map ≡ a.map → b.tables ≡ a.tables → TablesAfter a b
tables_same a b map tables =
    tables ∙ sym (without_none a.tables)
    ∙ without_as (λ f. false) (lost a.map b.map) a.tables
    (λ f. sym (ap (λ (m : List (Option NodeId)). lost a.map m f) map ∙ loses_same (node_of a.map f)))

loses_some : (x : Option NodeId) → is_some x ≡ true → loses x None ≡ true
loses_some None h = absurd (cc)
loses_some (Some n) h = refl

emptied_at : (m : List (Option NodeId)) (f g : ℕ) → f < length m → is_some (node_of m f) ≡ true → lost m (set m f None) g ≡ (g == f)
emptied_at m f g within some = elim (cases_eq g f) [
  | inl e ↦ (
      let gone : node_of (set m f None) g ≡ None = ap (λ (k : ℕ). node_of (set m f None) k) e ∙ get_or-set_same m f None None within in
      let had : is_some (node_of m g) ≡ true = ap (λ (k : ℕ). is_some (node_of m k)) e ∙ some in
      ap (loses (node_of m g)) gone ∙ loses_some (node_of m g) had ∙ sym (ap (λ (k : ℕ). k == f) e ∙ same_number f))
  | inr d ↦ (
      ap (loses (node_of m g)) (get_or-set_other m f g None None d) ∙ loses_same (node_of m g) ∙ sym (other_number g f d))
]

-- where one frame has no node any more
pub tables_emptied : (f : ℕ) (a b : Store) → f < length a.map → is_some (node_of a.map f) ≡ true → IsEmptied f a b → TablesAfter a b
tables_emptied f a b within some e =
    e.tables_are ∙ without_as (λ g. g == f) (lost a.map b.map) a.tables
    (λ g. sym (ap (λ (m : List (Option NodeId)). lost a.map m g) e.map_is ∙ emptied_at a.map f g within some))

-- where each frame that has a node has kept it, first and then again
loses_then : (x y z : Option NodeId) → (is_some y ≡ true → y ≡ x) → (is_some z ≡ true → z ≡ y) → (loses x y || loses y z) ≡ loses x z
loses_then None None z p q = refl
loses_then None (Some u) z p q = absurd (let e : Some u ≡ None = p refl in cc)
loses_then (Some v) None None p q = refl
loses_then (Some v) None (Some t) p q = absurd (let e : Some t ≡ None = q refl in cc)
loses_then (Some v) (Some u) z p q =
    ap (λ (y : Option NodeId). loses (Some v) y || loses y z) (p refl) ∙ ap (λ (b : Bool). b || loses (Some v) z) (loses_same (Some v))

pub lost_then : (a b c : World) → OthersStay a b → OthersStay b c → (f : ℕ) → (lost a.map b.map f || lost b.map c.map f) ≡ lost a.map c.map f
lost_then a b c p q f = loses_then (node_of a.map f) (node_of b.map f) (node_of c.map f) (λ s. (p.frames f s).node) (λ s. (q.frames f s).node)

-- two such moments
pub tables_then : (a b c : Store) → ((f : ℕ) → (lost a.map b.map f || lost b.map c.map f) ≡ lost a.map c.map f) → TablesAfter a b → TablesAfter b c
    → TablesAfter a c
tables_then a b c as_one p q =
    q ∙ ap (without (lost b.map c.map)) p
    ∙ twice (lost a.map b.map) (lost b.map c.map) a.tables
    ∙ without_as (λ f. lost a.map b.map f || lost b.map c.map f) (lost a.map c.map) a.tables as_one

-- a node that was in no frame comes to one that has none
loses_to : (n : NodeId) (x : Option NodeId) → is_node n.0 x ≡ false → loses x (Some n) ≡ loses x None
loses_to n None h = refl
loses_to n (Some v) h = ap not (other_number n.0 v.0 (λ e. absurd (let same : is_node n.0 (Some v) ≡ true = ap (λ (k : ℕ). k == n.0) (sym e) ∙ same_number n.0 in cc)))

pub not_there : (m : List (Option NodeId)) (n f : ℕ) → bound_times m n ≡ 0 → is_node n (node_of m f) ≡ false
not_there [] n f none = ap (is_node n) (get_or_past [] f None (omega arith))
not_there (x ∷ m) n zero none = none_passes (is_node n) (x ∷ m) 0 None (omega arith) none
not_there (x ∷ m) n (suc f) none = not_there m n f (omega (arith, count_cons (is_node n) x m, none))

pub lost_to : (m old : List (Option NodeId)) (k : ℕ) (n : NodeId) → bound_times old n.0 ≡ 0 → node_of m k ≡ None → k < length m → (f : ℕ) → lost old (set m k (Some n)) f ≡ lost old m f
lost_to m old k n none free within f = elim (cases_eq f k) [
  | inl e ↦ (
      let came : node_of (set m k (Some n)) f ≡ Some n = ap (λ (j : ℕ). node_of (set m k (Some n)) j) e ∙ get_or-set_same m k (Some n) None within in
      let was : node_of m f ≡ None = ap (node_of m) e ∙ free in
      ap (loses (node_of old f)) came ∙ loses_to n (node_of old f) (not_there old n.0 f none) ∙ sym (ap (loses (node_of old f)) was))
  | inr d ↦ ap (loses (node_of old f)) (get_or-set_other m k f (Some n) None d)
]

-- the tables after a node came to a free frame, or after nothing did
pub tables_to : (a b c : Store) → ((f : ℕ) → lost a.map c.map f ≡ lost a.map b.map f) → c.tables ≡ b.tables → TablesAfter a b → TablesAfter a c
tables_to a b c as_much same p =
    same ∙ p ∙ without_as (lost a.map b.map) (lost a.map c.map) a.tables (λ f. sym (as_much f))

-- the same where an eviction may have failed
pub evicts_tables : {T E : Type 0} (r : Result T E) (f : ℕ) (a b : Store) → f < length a.map → is_some (node_of a.map f) ≡ true → OnOk r (IsEmptied f a b) → OnErr r (b ≡ a) → TablesAfter a b
evicts_tables (Ok x) f a b within some ok err = tables_emptied f a b within some ok
evicts_tables (Err x) f a b within some ok err = tables_same a b (ap (λ (s : Store). s.map) err) (ap (λ (s : Store). s.tables) err)

-- a node may have come to a free frame
pub lost_filled : {T E : Type 0} (r : Result T E) (old m now : List (Option NodeId)) (k : ℕ) (n : NodeId) → OnOk r (now ≡ set m k (Some n)) → OnErr r (now ≡ m)
    → bound_times old n.0 ≡ 0 → node_of m k ≡ None → k < length m → (f : ℕ) → lost old now f ≡ lost old m f
lost_filled (Ok x) old m now k n ok err none free within f = ap (λ (l : List (Option NodeId)). lost old l f) ok ∙ lost_to m old k n none free within f
lost_filled (Err x) old m now k n ok err none free within f = ap (λ (l : List (Option NodeId)). lost old l f) err
