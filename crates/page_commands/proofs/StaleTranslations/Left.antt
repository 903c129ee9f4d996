-- What is left of the translations before the pages that they lead to are changed, and after that.
use Rattle.std.proofs.Common.{◌≡◌, ◌≢◌, ◌⊎◌, ℕ, ◌||◌, Bool, true, false, cond, List, [], ◌∷◌, Option, Some, None, refl, sym, ap, ◌∙◌, inl, inr}
use Rattle.std.specs.List.{list_any}
use Rattle.std.proofs.Math.ListN.{get_or-map}
use Rattle.std.proofs.lemmas.Bool.{false≢true}
use Rattle.vm_ids.specs.declared.node_name.NodeName.{NodeName}
use Rattle.vm_ids.specs.Forest.NameLists.{◌∈◌}
use Rattle.vm_ids.specs.Forest.Shape.{IsConsistent}
use Rattle.vm_ids.proofs.Places.{same_number}
use Rattle.local_cache.specs.Arena.{Arena}
use Rattle.local_cache.specs.Reading.{forest_of}
use Rattle.local_cache.specs.Sound.{IsSound}
use Rattle.page_tables.specs.Entries.{read_only}
use Rattle.page_tables.specs.Translations.{entry_at, narrowed_in, unless}
use Rattle.page_tables.specs.declared.entry.Entry.{Entry}
use Rattle.residency.specs.declared.store.Store.{Store}
use Rattle.residency.specs.Seeing.{IsAlone, seen_in}
use Rattle.residency.specs.Translating.{without}
use Rattle.page_commands.specs.Translating.{Leaves, Replaces, WasEntered, freed, is_frame, is_owned, is_seen, own_in, with_narrowed}
use Rattle.page_commands.proofs.StaleTranslations.Ranges.{OnlyTables, same_map, tables_mapped, tables_then}
use Rattle.page_commands.proofs.StaleTranslations.Seen.{alone_own}

-- One place
some_same : (v w : Entry) → Some v ≡ Some w → v ≡ w
some_same v w e = cc e

-- the entry at a place is left, and its frame is none of those whose entries are dropped
record IsLeft (frames : ℕ → Bool) (tables : List (Option Entry)) (place : ℕ) (e : Entry) : Type 0 where
  pub there : entry_at tables place ≡ Some e
  pub other : frames e.to.frame.0 ≡ false

left_at : (frames : ℕ → Bool) (was : Option Entry) (e : Entry) → unless (λ k. frames k.to.frame.0) was ≡ Some e → (was ≡ Some e) × (frames e.to.frame.0 ≡ false)
left_at frames None e is = absurd (cc is)
left_at frames (Some w) e is = go (frames w.to.frame.0) refl is
  where
    go : (b : Bool) → frames w.to.frame.0 ≡ b → cond b None (Some w) ≡ Some e → (Some w ≡ Some e) × (frames e.to.frame.0 ≡ false)
    go true tells is = absurd (cc is)
    go false tells is = (is, ap (λ (k : Entry). frames k.to.frame.0) (sym (some_same w e is)) ∙ tells)

is_left : (frames : ℕ → Bool) (tables now : List (Option Entry)) → now ≡ without frames tables → (place : ℕ) (e : Entry) → entry_at now place ≡ Some e → IsLeft frames tables place e
is_left frames tables now is place e at =
    let here = left_at frames (entry_at tables place) e (sym (get_or-map (unless (λ k. frames k.to.frame.0)) tables place None) ∙ ap (λ l. entry_at l place) (sym is) ∙ at) in
    record { there = here.0; other = here.1 }

-- the entry at a place is for reading alone, or its frame is none of those
record IsNarrowed (frames : ℕ → Bool) (tables : List (Option Entry)) (place : ℕ) (e : Entry) : Type 0 where
  pub entry : Entry
  pub there : entry_at tables place ≡ Some entry
  pub is : ((e ≡ entry) × (frames entry.to.frame.0 ≡ false)) ⊎ (e ≡ read_only entry)

narrowed_at : (frames : ℕ → Bool) (tables : List (Option Entry)) (place : ℕ) (e : Entry) (was : Option Entry) → entry_at tables place ≡ was → narrowed_in frames was ≡ Some e → IsNarrowed frames tables place e
narrowed_at frames tables place e None at is = absurd (cc is)
narrowed_at frames tables place e (Some w) at is = record { entry = w; there = at; is = go (frames w.to.frame.0) refl is }
  where
    go : (b : Bool) → frames w.to.frame.0 ≡ b → Some (cond b (read_only w) w) ≡ Some e → ((e ≡ w) × (frames w.to.frame.0 ≡ false)) ⊎ (e ≡ read_only w)
    go true tells is = inr (sym (some_same (read_only w) e is))
    go false tells is = inl (sym (some_same w e is), tells)

is_narrowed : (frames : ℕ → Bool) (tables now : List (Option Entry)) → now ≡ with_narrowed frames tables → (place : ℕ) (e : Entry) → entry_at now place ≡ Some e → IsNarrowed frames tables place e
is_narrowed frames tables now is place e at =
    narrowed_at frames tables place e (entry_at tables place) refl (sym (get_or-map (narrowed_in frames) tables place None) ∙ ap (λ l. entry_at l place) (sym is) ∙ at)

same_frame : (frames : ℕ → Bool) (tables : List (Option Entry)) (place : ℕ) (e : Entry) (n : IsNarrowed frames tables place e) → e.to.frame.0 ≡ n.entry.to.frame.0
same_frame frames tables place e n = elim n.is [
  | inl same ↦ ap (λ (k : Entry). k.to.frame.0) same.0
  | inr narrow ↦ ap (λ (k : Entry). k.to.frame.0) narrow
]

-- The frames of some pages
none_of : (b c : Bool) → (b || c) ≡ false → (b ≡ false) × (c ≡ false)
none_of true c e = absurd (cc e)
none_of false c e = (refl, e)

-- a frame that is that of none of these pages
pub not_at : (at : NodeName → Option ℕ) (names : List NodeName) (f : ℕ) → list_any (λ x. is_frame (at x) f) names ≡ false → (x : NodeName) → x ∈ names → at x ≢ Some f
not_at at [] f none x i e = absurd i
not_at at (y ∷ ys) f none x i e =
    let both = none_of (is_frame (at y) f) (list_any (λ z. is_frame (at z) f) ys) none in
    elim i [
      | inl is ↦ false≢true (sym both.0 ∙ ap (λ (o : Option ℕ). is_frame o f) (ap at (sym is) ∙ e) ∙ same_number f)
      | inr more ↦ not_at at ys f both.1 x more e
    ]

-- Before the pages are changed

-- What is left of the translations of some pages, sought before they are replaced, and of others
-- that are to get heirs.
pub record AreReady (sought shared : NodeName → Type 0) (a : Arena) (s t : Store) : Type 0 where
  pub only : OnlyTables s t
  pub was : (place : ℕ) (e : Entry) → entry_at t.tables place ≡ Some e → WasEntered s place e
  pub unseen : (place : ℕ) (e : Entry) → entry_at t.tables place ≡ Some e → (x : NodeName) → sought x → seen_in a s.map x ≢ Some e.to.frame.0
  pub unshared : (place : ℕ) (e : Entry) → entry_at t.tables place ≡ Some e → e.to.writable ≡ true → (x : NodeName) → shared x → IsAlone a x → seen_in a s.map x ≢ Some e.to.frame.0

module _ (a : Arena) (names : List NodeName) where
  abbrev Dropped : Store → Store → Type 0
  Dropped s t = t ≡ record s { tables = without (is_seen a s.map names) s.tables }

  abbrev Narrowed : Store → Store → Type 0
  Narrowed s t = t ≡ record s { tables = with_narrowed (is_owned a s.map names) s.tables }

  pub ready_first : (s t : Store) → Dropped s t → AreReady (λ x. x ∈ names) (λ x. ⊥) a s t
  ready_first s t is =
      let left = is_left (is_seen a s.map names) s.tables t.tables (ap (λ (r : Store). r.tables) is) in
      record {
        only = tables_mapped s t _ is;
        was = λ place e at. record { entry = e; there = (left place e at).there; is = inl refl };
        unseen = λ place e at x i. not_at (seen_in a s.map) names e.to.frame.0 (left place e at).other x i;
        unshared = λ place e at w x none. absurd none;
      }

  module _ (sought : NodeName → Type 0) (s t u : Store) (ready : AreReady sought (λ x. ⊥) a s t) where
    pub ready_more : Dropped t u → AreReady (λ x. sought x ⊎ (x ∈ names)) (λ x. ⊥) a s u
    ready_more is =
        let left = is_left (is_seen a t.map names) t.tables u.tables (ap (λ (r : Store). r.tables) is) in
        record {
          only = tables_then s t u ready.only (tables_mapped t u _ is);
          was = λ place e at. ready.was place e (left place e at).there;
          unseen = λ place e at x i. elim i [
            | inl first ↦ ready.unseen place e (left place e at).there x first
            | inr here ↦ λ seen. not_at (seen_in a t.map) names e.to.frame.0 (left place e at).other x here (ap (λ m. seen_in a m x) (same_map s t ready.only) ∙ seen)
          ];
          unshared = λ place e at w x none. absurd none;
        }

    pub ready_shared : IsSound a → IsConsistent (forest_of a) → Narrowed t u → AreReady sought (λ x. x ∈ names) a s u
    ready_shared sound consistent is =
        let now = is_narrowed (is_owned a t.map names) t.tables u.tables (ap (λ (r : Store). r.tables) is) in
        record {
          only = tables_then s t u ready.only (tables_mapped t u _ is);
          was = λ place e at. let n = now place e at in after place e n (ready.was place n.entry n.there);
          unseen = λ place e at x i seen.
              let n = now place e at in
              ready.unseen place n.entry n.there x i (seen ∙ ap Some (same_frame (is_owned a t.map names) t.tables place e n));
          unshared = λ place e at w x i alone seen.
              let n = now place e at in
              elim n.is [
                | inl same ↦ not_at (own_in a t.map) names n.entry.to.frame.0 same.1 x i
                    (ap (λ m. own_in a m x) (same_map s t ready.only) ∙ sym (alone_own a s.map sound consistent x alone) ∙ seen ∙ ap (λ (k : Entry). Some k.to.frame.0) same.0)
                | inr narrow ↦ false≢true (sym (ap (λ (k : Entry). k.to.writable) narrow) ∙ w)
              ];
        }
      where
        after : (place : ℕ) (e : Entry) (n : IsNarrowed (is_owned a t.map names) t.tables place e) → WasEntered s place n.entry → WasEntered s place e
        after place e n was = record {
          entry = was.entry;
          there = was.there;
          is = elim n.is [
            | inl same ↦ elim was.is [
              | inl first ↦ inl (same.0 ∙ first)
              | inr read ↦ inr (same.0 ∙ read)
            ]
            | inr narrow ↦ elim was.is [
              | inl first ↦ inr (narrow ∙ ap read_only first)
              | inr read ↦ inr (narrow ∙ ap read_only read)
            ]
          ];
        }

-- After that
pub leaves : (replaced sought shared : NodeName → Type 0) (a : Arena) (s t : Store) (b : Arena) (u : Store) → AreReady sought shared a s t → Replaces replaced shared a t b u → Leaves replaced sought shared a s b u
leaves replaced sought shared a s t b u ready rest =
    let left = is_left (freed t.map u.map) t.tables u.tables rest.tables in
    record {
      was = λ place e at. ready.was place e (left place e at).there;
      unseen = λ place e at. ready.unseen place e (left place e at).there;
      unshared = λ place e at. ready.unshared place e (left place e at).there;
      seen = λ x live other. rest.seen x live other ∙ ap (λ m. seen_in a m x) (same_map s t ready.only);
      alone = rest.alone;
    }
