-- A manager whose translations alone changed stands for what it stood for.
use Rattle.std.proofs.Common.{◌≡◌, ℕ, Bool, List, length, Option, Some, None, sym, ap, subst}
use Rattle.std.specs.Prelude.{IfSome}
use Rattle.vm_ids.specs.Held.{Held}
use Rattle.local_cache.specs.Arena.{Arena}
use Rattle.page_tables.specs.declared.entry.Entry.{Entry}
use Rattle.residency.specs.StoreForest.{store_forest}
use Rattle.residency.specs.World.{IsStoreRight, world}
use Rattle.residency.specs.declared.store.Store.{Store}
use Rattle.vm_model.specs.Machine.{Machine}
use Rattle.vm_model.specs.Outcome.{HasWholePages}
use Rattle.contexts.specs.Actors.{Actors}
use Rattle.pvm_core.specs.Manager.{IsManagerSound, IsValid, Manager, forest_of, machine_by, machine_of, state_at}

-- the store with other translations
abbrev pub with_tables : Store → List (Option Entry) → Store
with_tables s ts = record s { tables = ts }

module _ (h : Option Held) (size : Option ℕ) (a : Arena) (s : Store) (ts : List (Option Entry)) (many : length ts ≡ length s.tables) where
  pub tables_world : world h size a (with_tables s ts) ≡ world h size a s
  tables_world i = record (world h size a s) { places = many i }

-- what holds of a manager's fields says nothing of translations, nor of the marks of frames
pub led_sound : (a : Arena) (s : Store) (ts : List (Option Entry)) (marks : List Bool) (u : Actors) (live : ℕ) → IsManagerSound a s u live → IsManagerSound a (record s { tables = ts; marks = marks }) u live
led_sound a s ts marks u live k = record {
  nodes = k.nodes;
  apart = k.apart;
  bounded = k.bounded;
  slots = k.slots;
  counted = k.counted;
  few = k.few;
  loose = k.loose;
  locked = record { counted = k.locked.counted; resident = k.locked.resident; pinned = k.locked.pinned; pins = k.locked.pins; few = k.locked.few };
  actors = k.actors;
  page = k.page;
}

pub tables_sound : (a : Arena) (s : Store) (ts : List (Option Entry)) (u : Actors) (live : ℕ) → IsManagerSound a s u live → IsManagerSound a (with_tables s ts) u live
tables_sound a s ts = led_sound a s ts s.marks

module _ (p : Manager) (ts : List (Option Entry)) (many : length ts ≡ length p.store.tables) (h : Option Held) where
  abbrev changed : Manager
  changed = record p { store = with_tables p.store ts }

  pub tables_forest : forest_of changed h ≡ forest_of p h
  tables_forest = ap store_forest (tables_world h None p.caches p.store ts many)

  pub tables_machine : machine_of changed h ≡ machine_of p h
  tables_machine = ap (machine_by p) tables_forest

  pub tables_state : state_at changed h ≡ state_at p h
  tables_state i = record { machine = tables_machine i; forest = Some (tables_forest i); segments = (state_at p h).segments }

  pub tables_valid : IsValid p h → IsValid changed h
  tables_valid v = record {
    right = subst IsStoreRight (sym (tables_world h None p.caches p.store ts many)) v.right;
    sized = v.sized;
    full = v.full;
    whole = subst (λ (m : Machine). IfSome h (λ _. HasWholePages m)) (sym tables_machine) v.whole;
  }
