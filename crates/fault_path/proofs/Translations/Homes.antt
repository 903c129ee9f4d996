-- The translations that lead to the page of a node, or of two.
use Rattle.std.proofs.Common.{◌≡◌, ℕ, ◌<◌, ◌≤◌, ◌==◌, Bool, true, false, cond, List, length, map, Option, Some, None, ◌||◌, ◌⊎◌, refl, sym, ap, subst, ◌∙◌, inl, inr, arith}
use Rattle.std.proofs.lemmas.Bool.{cases_eq, false≢true}
use Rattle.std.proofs.Math.ListN.{get_or-map}
use Rattle.vm_ids.specs.declared.numbers.NodeId.{NodeId}
use Rattle.vm_ids.proofs.Places.{count_some, only_place, other_number, same_number}
use Rattle.global_map.specs.Pairs.{bound_times, is_node, node_of}
use Rattle.global_map.proofs.Places.{the_node}
use Rattle.page_tables.specs.Entries.{is_in_frame}
use Rattle.page_tables.specs.Translations.{entry_at, unless}
use Rattle.page_tables.specs.declared.entry.Entry.{Entry}
use Rattle.residency.specs.declared.store.Store.{Store}
use Rattle.residency.specs.Translating.{TablesAfter, lost, without}
use Rattle.residency.proofs.Translations.Dropped.{without_as, without_none}
use Rattle.residency.proofs.Translations.Kept.{kept_node}
use Rattle.residency.proofs.Translations.Lost.{not_there}
use Rattle.fault_path.specs.Translating.{DropsHomes, NoneLeadTo, StaysOrUnseen, is_home, is_home_of, without_homes}
use Rattle.fault_path.proofs.Frames.GatheredFrames.{bound_below}

module _ (m : List (Option NodeId)) (n : NodeId) (f : ℕ) (most : bound_times m n.0 ≤ 1) (within : f < length m) (at : node_of m f ≡ Some n) where
  here : is_node n.0 (node_of m f) ≡ true
  here = ap (is_node n.0) at ∙ same_number n.0

  once : bound_times m n.0 ≡ 1
  once = omega (arith, most, count_some (is_node n.0) m f None within here)

  nowhere_else : (g : ℕ) (b : Bool) → is_node n.0 (node_of m g) ≡ b → (g == f) ≡ b
  nowhere_else g true e =
      let first = only_place (is_node n.0) m f None once within here in
      let second = only_place (is_node n.0) m g None once (bound_below m g n (the_node (node_of m g) n e)) e in
      ap (λ (k : ℕ). k == f) (sym second ∙ first) ∙ same_number f
  nowhere_else g false e = elim (cases_eq g f) [
    | inl q ↦ absurd (false≢true (sym e ∙ ap (λ (k : ℕ). is_node n.0 (node_of m k)) q ∙ here))
    | inr d ↦ other_number g f d
  ]

  pub home_dropped : (tables : List (Option Entry)) → map (unless (is_in_frame f)) tables ≡ without (is_home n m) tables
  home_dropped tables = without_as (λ g. g == f) (is_home n m) tables (λ g. nowhere_else g (is_home n m g) refl)

pub homeless_dropped : (m : List (Option NodeId)) (n : NodeId) → bound_times m n.0 ≡ 0 → (tables : List (Option Entry)) → tables ≡ without (is_home n m) tables
homeless_dropped m n none tables = sym (without_none tables) ∙ without_as (λ f. false) (is_home n m) tables (λ f. sym (not_there m n.0 f none))

-- what is at a place is left, and its frame is none of those
left_at : (frames : ℕ → Bool) (tables : List (Option Entry)) (place : ℕ) (e : Entry) → entry_at (without frames tables) place ≡ Some e → (entry_at tables place ≡ Some e) × (frames e.to.frame.0 ≡ false)
left_at frames tables place e at = go (entry_at tables place) (sym (get_or-map (unless (λ k. frames k.to.frame.0)) tables place None) ∙ at)
  where
    kept : (b : Bool) (w : Entry) → frames w.to.frame.0 ≡ b → cond b None (Some w) ≡ Some e → (Some w ≡ Some e) × (frames e.to.frame.0 ≡ false)
    kept true w tells is = absurd (cc is)
    kept false w tells is =
        let same : w ≡ e = cc is in
        (is, ap (λ (k : Entry). frames k.to.frame.0) (sym same) ∙ tells)

    go : (o : Option Entry) → unless (λ k. frames k.to.frame.0) o ≡ Some e → (o ≡ Some e) × (frames e.to.frame.0 ≡ false)
    go None is = absurd (cc is)
    go (Some w) is = kept (frames w.to.frame.0) w refl is

-- no translation leads to a frame whose translations are dropped
dropped_none : (frames : ℕ → Bool) (tables : List (Option Entry)) (f : ℕ) → frames f ≡ true → NoneLeadTo f (without frames tables)
dropped_none frames tables f among place e at to = false≢true (sym (left_at frames tables place e at).1 ∙ ap frames to ∙ among)

-- nor to one to which none led, where translations are dropped
fewer_none : (frames : ℕ → Bool) (tables : List (Option Entry)) (f : ℕ) → NoneLeadTo f tables → NoneLeadTo f (without frames tables)
fewer_none frames tables f none place e at = none place e (left_at frames tables place e at).0

lost_or : (before now : List (Option NodeId)) (f : ℕ) (o : NodeId) → node_of before f ≡ Some o → (b : Bool) → lost before now f ≡ b → (lost before now f ≡ true) ⊎ (node_of now f ≡ Some o)
lost_or before now f o at true e = inl e
lost_or before now f o at false e = inr (kept_node o (node_of before f) (node_of now f) e at)

-- where frames that lost their nodes are dropped
pub stays_or_unseen : (o : NodeId) (s t : Store) → TablesAfter s t → StaysOrUnseen o s t
stays_or_unseen o s t after f at = elim (lost_or s.map t.map f o at (lost s.map t.map f) refl) [
  | inl gone ↦ inr (subst (NoneLeadTo f) (sym after) (dropped_none (lost s.map t.map) s.tables f gone))
  | inr there ↦ inl there
]

-- translations that lead to two pages were dropped, of which the first stays, or is unseen
pub drops_homes : (o n : NodeId) (s t u : Store) → StaysOrUnseen o s t → u ≡ without_homes o n t → DropsHomes o n s u
drops_homes o n s t u stays is = record {
  was = λ f at. left f (elim (stays f at) [
    | inl there ↦ dropped_none (is_home_of o n t.map) t.tables f (ap (λ (b : Bool). b || is_home n t.map f) (ap (is_node o.0) there ∙ same_number o.0))
    | inr none ↦ fewer_none (is_home_of o n t.map) t.tables f none
  ]);
  are = λ f at. left f (dropped_none (is_home_of o n t.map) t.tables f (ap (λ (r : Store). is_home_of o n r.map f) (sym is) ∙ at));
}
  where
    left : (f : ℕ) → NoneLeadTo f (without (is_home_of o n t.map) t.tables) → NoneLeadTo f u.tables
    left f none = subst (λ (r : Store). NoneLeadTo f r.tables) (sym is) none
