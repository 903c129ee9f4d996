-- Translations stay right where others are dropped.
use Rattle.std.proofs.Common.{◌≡◌, ℕ, Bool, false, List, length, map, replicate, Option, Some, None, sym, ap, subst, ◌∙◌, inl, inr, arith}
use Rattle.std.proofs.lemmas.Bool.{cases_Bool, cases_lt, cond-false, cond-true}
use Rattle.std.proofs.lemmas.List.{get_or-map, get_or_past, length-map}
use Rattle.vm_ids.specs.declared.node_name.NodeName.{NodeName}
use Rattle.vm_ids.specs.declared.numbers.NodeId.{NodeId}
use Rattle.local_cache.specs.Arena.{Arena}
use Rattle.page_tables.specs.Translations.{entry_at, unless}
use Rattle.page_tables.specs.declared.entry.Entry.{Entry}
use Rattle.page_tables.proofs.EachEntry.{each-empty, each-unless}
use Rattle.residency.specs.Seeing.{seen_in}
use Rattle.residency.specs.Translating.{Drops}
use Rattle.residency.specs.declared.store.Store.{Store}
use Rattle.page_commands.specs.Homes.{IsWritable}
use Rattle.contexts.specs.Actors.{Actors}
use Rattle.pvm_core.specs.Translated.{AreTranslationsRight, IsTranslationRight, name_at}
use Rattle.pvm_core.proofs.Translating.Alike.{still_right}

-- there are none
pub none_right : (a : Arena) (s : Store) (u : Actors) (count : ℕ) → s.tables ≡ replicate count None → AreTranslationsRight a s u
none_right a s u count none place e is = each-empty (IsTranslationRight a s u) count place e (subst (λ (ts : List (Option Entry)). entry_at ts place ≡ Some e) none is)

-- some are dropped, and the pages that the others are for are seen where they were
pub dropped_right : (came : NodeId → Type 0) (a b : Arena) (s t : Store) (u : Actors) → Drops came a s b t
    → ((x : NodeName) → IsWritable a x → IsWritable b x)
    → AreTranslationsRight a s u → AreTranslationsRight b t u
dropped_right came a b s t u d grants right place e is =
    let was = each-unless (IsTranslationRight a s u) (λ e. d.frames e.to.frame.0) s.tables right place e (subst (λ (ts : List (Option Entry)). entry_at ts place ≡ Some e) d.tables is) in
    let r = was.0 in
    let x : NodeName = name_at r.at in
    still_right a b s t u e r (d.seen x e.to.frame.0 was.1) (λ w. d.alone x) (grants x)

-- each that is left was there, and nodes and frames are as they were
pub fewer_right : (a : Arena) (s t : Store) (u : Actors) → t.map ≡ s.map
    → ((place : ℕ) (e : Entry) → entry_at t.tables place ≡ Some e → entry_at s.tables place ≡ Some e)
    → AreTranslationsRight a s u → AreTranslationsRight a t u
fewer_right a s t u same fewer right place e is =
    let r = right place e (fewer place e is) in
    let x : NodeName = name_at r.at in
    still_right a a s t u e r (λ seen. ap (λ (m : List (Option NodeId)). seen_in a m x) same ∙ seen) (λ w alone. alone) (λ granted. granted)

none_some : {X : Type 0} {o : Option X} (x : X) → o ≡ None → o ≡ Some x → ⊥
none_some x p q = let z : None ≡ Some x = sym p ∙ q in absurd (cc)

left_at : (test : Entry → Bool) (o : Option Entry) (e : Entry) → unless test o ≡ Some e → (o ≡ Some e) × (test e ≡ false)
left_at test None e is = absurd (cc)
left_at test (Some x) e is = elim (cases_Bool (test x)) [
  | inl t ↦ absurd (none_some e (cond-true (test x) None (Some x) t) is)
  | inr f ↦ (
      let same : Some x ≡ Some e = sym (cond-false (test x) None (Some x) f) ∙ is in
      let own : x ≡ e = cc in
      (same, ap test (sym own) ∙ f))
]

-- each that is left was there, and doesn't pass the test
pub left_unless : (test : Entry → Bool) (tables : List (Option Entry)) (place : ℕ) (e : Entry) → entry_at (map (unless test) tables) place ≡ Some e
    → (entry_at tables place ≡ Some e) × (test e ≡ false)
left_unless test tables place e is = elim (cases_lt place (length tables)) [
  | inl b ↦ left_at test (entry_at tables place) e (sym (get_or-map (unless test) tables place None None b) ∙ is)
  | inr b ↦ absurd (none_some e (get_or_past (map (unless test) tables) place None (omega (arith, length-map tables (unless test), b))) is)
]
