-- Translations stay right where pages are replaced or shared, and those that lead to them go.
use Rattle.std.proofs.Common.{◌≡◌, refl, sym, subst, ◌∙◌, inl, inr}
use Rattle.std.proofs.lemmas.Bool.{false≢true}
use Rattle.std.specs.Prelude.{ℕ, ◌⊎◌, Ok}
use Rattle.vm_ids.specs.declared.node_name.NodeName.{NodeName}
use Rattle.vm_model.specs.Place.{Place}
use Rattle.local_cache.specs.Arena.{Arena}
use Rattle.page_tables.specs.Entries.{read_only}
use Rattle.page_tables.specs.declared.entry.Entry.{Entry}
use Rattle.residency.specs.declared.store.Store.{Store}
use Rattle.page_commands.specs.Homes.{IsWritable}
use Rattle.page_commands.specs.Translating.{Leaves}
use Rattle.contexts.specs.Actors.{Actors}
use Rattle.pvm_core.specs.Translated.{AreTranslationsRight, IsTranslationRight, name_at, place_of_page}
use Rattle.pvm_core.proofs.Translating.Alike.{still_right}

-- the same but for reading alone
narrowed_right : (a : Arena) (s : Store) (u : Actors) (e : Entry) → IsTranslationRight a s u e → IsTranslationRight a s u (read_only e)
narrowed_right a s u e r = record { at = r.at; place = r.place; seen = r.seen; written = λ w. absurd (false≢true w) }

was_right : (a : Arena) (s : Store) (u : Actors) (e entry : Entry) → (e ≡ entry) ⊎ (e ≡ read_only entry) → IsTranslationRight a s u entry → IsTranslationRight a s u e
was_right a s u e entry (inl same) r = subst (IsTranslationRight a s u) (sym same) r
was_right a s u e entry (inr same) r = subst (IsTranslationRight a s u) (sym same) (narrowed_right a s u entry r)

-- one that is left is for a page that isn't replaced, where each that an actor sees was sought, and
-- for writing only where the page isn't shared
pub left_right : (replaced sought shared : NodeName → Type 0) (a b : Arena) (s t : Store) (u : Actors) → Leaves replaced sought shared a s b t
    → ((actor page : ℕ) (at : Place) → place_of_page u actor page ≡ Ok at → replaced (name_at at) → sought (name_at at))
    → ((x : NodeName) → IsWritable a x → IsWritable b x)
    → AreTranslationsRight a s u → AreTranslationsRight b t u
left_right replaced sought shared a b s t u l each grants right place e is =
    let w = l.was place e is in
    let r = was_right a s u e w.entry w.is (right place w.entry w.there) in
    let x : NodeName = name_at r.at in
    let kept : replaced x → ⊥ = λ h. l.unseen place e is x (each e.actor.0 e.page r.at r.place h) r.seen in
    still_right a b s t u e r (λ seen. l.seen x refl kept ∙ seen)
    (λ writable alone. l.alone x refl kept (λ h. l.unshared place e is writable x h alone r.seen) alone) (grants x)
