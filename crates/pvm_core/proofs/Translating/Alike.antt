-- Translations stay right where each page is seen in the frame in which it was seen.
use Rattle.std.proofs.Common.{◌≡◌, ℕ, true, Some, refl}
use Rattle.vm_ids.specs.declared.node_name.NodeName.{NodeName}
use Rattle.local_cache.specs.Arena.{Arena}
use Rattle.page_tables.specs.Translations.{entry_at}
use Rattle.page_tables.specs.declared.entry.Entry.{Entry}
use Rattle.residency.specs.Seeing.{IsAlone, seen_in}
use Rattle.residency.specs.declared.store.Store.{Store}
use Rattle.page_commands.specs.Homes.{IsWritable}
use Rattle.vm_ids.specs.Forest.Nodes.{is_live}
use Rattle.contexts.specs.Actors.{Actors}
use Rattle.pvm_core.specs.Translated.{AreTranslationsRight, IsTranslationRight, name_at}

-- a translation is right still, where what it says of its page is so still
pub still_right : (a b : Arena) (s t : Store) (u : Actors) (e : Entry) (r : IsTranslationRight a s u e)
    → (seen_in a s.map (name_at r.at) ≡ Some e.to.frame.0 → seen_in b t.map (name_at r.at) ≡ Some e.to.frame.0)
    → (e.to.writable ≡ true → IsAlone a (name_at r.at) → IsAlone b (name_at r.at))
    → (IsWritable a (name_at r.at) → IsWritable b (name_at r.at))
    → IsTranslationRight b t u e
still_right a b s t u e r seen alone grants = record {
  at = r.at;
  place = r.place;
  seen = seen r.seen;
  written = λ w. (let m = r.written w in record { allowed = m.allowed; alone = alone w m.alone; granted = grants m.granted });
}

-- the same of all, where each page is seen where it was, and is alone and granted where it was
pub alike_right : (a b : Arena) (s t : Store) (u : Actors)
    → ((place : ℕ) (e : Entry) → entry_at t.tables place ≡ Some e → entry_at s.tables place ≡ Some e)
    → ((x : NodeName) (f : ℕ) → is_live x ≡ true → seen_in a s.map x ≡ Some f → seen_in b t.map x ≡ Some f)
    → ((x : NodeName) → is_live x ≡ true → IsAlone a x → IsAlone b x)
    → ((x : NodeName) → is_live x ≡ true → IsWritable a x → IsWritable b x)
    → AreTranslationsRight a s u → AreTranslationsRight b t u
alike_right a b s t u fewer seen alone grants right place e is =
    let r = right place e (fewer place e is) in
    let x : NodeName = name_at r.at in
    still_right a b s t u e r (seen x e.to.frame.0 refl) (λ w. alone x refl) (grants x refl)
