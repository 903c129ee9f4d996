-- Steps that keep the machine, one after the other.
use Rattle.std.proofs.Common.{◌≡◌, ℕ, ◌+◌, Bool, true, false, List, Option, Some, None, is_some, refl, sym, ap, ◌∙◌, subst, unwrap_or, inl, inr}
use Rattle.std.specs.Prelude.{IfErr, IsSome, OnOk, Ok, Err, Result, option_map, option_and_then, slice_get}
use Rattle.std.proofs.lemmas.List.{append-nil}
use Rattle.vm_ids.specs.Counting.{MapperCounts}
use Rattle.vm_ids.specs.Held.{Held}
use Rattle.vm_ids.specs.declared.command.Extent.{Extent}
use Rattle.vm_ids.specs.declared.reply.FaultAt.TheVariants as faults
use Rattle.vm_ids.specs.declared.reply.Trouble.{Trouble}
use Rattle.vm_ids.specs.declared.reply.Trouble.TheVariants as troubles
use Rattle.vm_ids.specs.Forest.Commands.{extent_names, page_name}
use Rattle.vm_ids.specs.Forest.Saving.{is_unsaved, saved, saves, unsaved}
use Rattle.vm_ids.specs.Forest.Shape.{IsConsistent}
use Rattle.vm_ids.proofs.Forest.Saving.{save_range_ends}
use Rattle.local_cache.specs.Arena.{Arena, Table, table_at, table_of}
use Rattle.local_cache.specs.Home.{home_named}
use Rattle.local_cache.specs.Whole.{IsWhole, SameCaches}
use Rattle.local_cache.proofs.Tables.Sizes.{sizes_then}
use Rattle.page_commands.specs.Homes.{AreAllSaved}
use Rattle.segment_ops.specs.Access.{GrantsBefore}
use Rattle.segment_ops.proofs.Unsaved.{unsaved_by}
use Rattle.vm_model.specs.Machine.{Machine}
use Rattle.vm_model.specs.PageForest.{PageForest}
use Rattle.pvm_core.specs.Manager.{Manager, forest_of, machine_of, world_of}
use Rattle.pvm_core.specs.Reaching.{Reach}
use Rattle.pvm_core.specs.Saving.{FailedToSave, HasGranted, IsNotReady, IsNotSaved, KeepsForest, KeepsMachine, KeepsStore, NeedsNoSave, NeedsNothing, is_named}
use Rattle.pvm_core.specs.Writes.{AreWritable, IsNotGranted, asked_end}
use Rattle.pvm_core.specs.Keeping.{HasMoreRoom}
use Rattle.contexts.specs.Actors.{Actors}
use Rattle.residency.specs.declared.store.Store.{Store}
use Rattle.pvm_core.proofs.Readiness.Denied.{denied_cases}
use Rattle.pvm_core.proofs.Answering.Kept.{seen}
use Rattle.pvm_core.proofs.Answering.Reaching.{reach_then}

pub keeps_then : (p q r : Manager) (h g k : Option Held) (c d e : MapperCounts) → KeepsMachine p q h g c d → KeepsMachine q r g k d e → KeepsMachine p r h k c e
keeps_then p q r h g k c d e a b = record {
  machine = b.machine ∙ a.machine;
  by = λ f. b.by f ∙ a.by f;
  same = sizes_then p.caches q.caches r.caches a.same b.same;
  made = b.made ∙ a.made;
  reach = reach_then (machine_of p h) h g k c d e a.reach (subst (λ (m : Machine). Reach m g k d e) a.machine b.reach);
}

-- a segment names the cache still
pub named_same : (a b : Arena) → SameCaches a b → (n : ℕ) → is_named b n ≡ is_named a n
named_same a b same n = sym (by_segment (table_of b n)) ∙ ap (λ (o : Option (Option _)). is_some (option_and_then (λ s. s) o)) (same.segments n) ∙ by_segment (table_of a n)
  where
    by_segment : (o : Option Table) → is_some (option_and_then (λ s. s) (option_map (λ (t : Table). t.segment) o)) ≡ is_some (option_and_then (λ (t : Table). t.segment) o)
    by_segment None = refl
    by_segment (Some t) = refl

-- what may be written stays so where the tables stay
pub writable_same : (a b : Arena) (range : Extent) → b.caches ≡ a.caches → AreWritable range a → AreWritable range b
writable_same a b range e w page of = subst (λ (ts : List (Option Table)). IsSome (home_named ts (page_name range.cache page)) → unwrap_or (option_and_then (λ (t : Table). slice_get t.grants page) (table_at ts range.cache.0)) false ≡ true) (sym e) (w page of)

-- behind the saves no page of the range has an own page and an heir
pub saved_all : (q : Manager) (g : Option Held) (range : Extent) (f : PageForest) → IsWhole q.caches → IsConsistent f → (named : Bool) → is_named q.caches range.cache.0 ≡ named → forest_of q g ≡ saved named (extent_names range) f → AreAllSaved q.caches range.cache (extent_names range)
saved_all q g range f whole shaped true e forest named x i =
    sym (unsaved_by (world_of q g) whole.sound x) ∙ ap (λ k. is_unsaved k x) forest ∙ save_range_ends (extent_names range) f shaped.shaped x i
saved_all q g range f whole shaped false e forest named x i = absurd (let k : true ≡ false = sym named ∙ e in cc k)

pub on_ok_by : {T E P Q : Type 0} (r : Result T E) → (P → Q) → OnOk r P → OnOk r Q
on_ok_by (Ok x) f p = f p
on_ok_by (Err e) f p = tt

pub if_err_by : {T E : Type 0} {P Q : E → Type 0} (r : Result T E) → ((e : E) → P e → Q e) → IfErr r P → IfErr r Q
if_err_by (Ok x) f p = tt
if_err_by (Err e) f p = f e p

pub if_err_all : {T E : Type 0} {P : E → Type 0} (r : Result T E) → ((e : E) → P e) → IfErr r P
if_err_all (Ok x) f = tt
if_err_all (Err e) f = f e

-- what failed where not all pages were saved is a save
pub failed_save : (range : Extent) (p q : Manager) (h g : Option Held) (trouble : Trouble) → IsNotSaved range p h q g trouble → (done : ℕ) × (trouble ≡ troubles.Mapper (faults.Save done)) × FailedToSave range done p q h g
failed_save range p q h g (troubles.Mapper (faults.Save done)) d = (done, refl, d)
failed_save range p q h g troubles.Memory d = absurd d
failed_save range p q h g (troubles.Mapper faults.Opening) d = absurd d
failed_save range p q h g (troubles.Mapper (faults.Access page)) d = absurd d
failed_save range p q h g (troubles.Mapper (faults.Page page)) d = absurd d
failed_save range p q h g (troubles.Mapper faults.Victim) d = absurd d
failed_save range p q h g (troubles.Refused r) d = absurd d

-- where a save failed, the pages weren't ready
pub unsaved_ready : (range : Extent) (p q r : Manager) (h g k : Option Held) → is_named q.caches range.cache.0 ≡ is_named p.caches range.cache.0 → KeepsForest p q h g → AreWritable range r.caches → (trouble : Trouble) → IsNotSaved range q g r k trouble → IsNotReady range p h r k trouble
unsaved_ready range p q r h g k named forest writable trouble out =
    let s = failed_save range q r g k trouble out in
    subst (IsNotReady range p h r k) (sym s.1) (
      record {
        named = sym named ∙ s.2.named;
        forest = s.2.forest ∙ ap (saves s.0 (extent_names range)) forest.forest;
        left = λ n less. subst (λ f. IsSome (unsaved (saves n (extent_names range) f) (extent_names range))) forest.forest (s.2.left n less);
        copies = s.2.copies ∙ ap (λ n. n + s.0) forest.copies;
      },
      writable,
    )

-- where the pages may not be written, they aren't ready
pub ungranted_ready : (range : Extent) (p q : Manager) (h g : Option Held) → KeepsForest p q h g → KeepsStore p q → (trouble : Trouble) → IsNotGranted range h p.caches q.caches trouble → IsNotReady range p h q g trouble
ungranted_ready range p q h g forest store trouble out = elim (denied_cases range h out.segment p.caches q.caches trouble out.denied) [
  | inl w ↦ subst (IsNotReady range p h q g) (sym w.0) (forest, record { segment = out.segment; named = out.named; denied = w.1 }, store)
  | inr w ↦ subst (IsNotReady range p h q g) (sym w.1) (forest, record { segment = out.segment; named = out.named; denied = w.2 }, store)
]

-- what needs nothing needs no save
pub no_save : (a : Arena) (range : Extent) → NeedsNothing a range → NeedsNoSave a range
no_save a range (inl none) = inl none
no_save a range (inr all) = inr all.1

-- all writes of a range were granted, and room was taken
pub roomier_granted : (range : Extent) (a b d : Arena) (s : Store) (t : Actors) → b.room ≡ a.room → d ≡ record b { room = d.room } → GrantsBefore range (asked_end a range) a b → HasGranted range (seen a s t) (seen d s t)
roomier_granted range a b d s t room kept grants = record {
  store = refl;
  grants = subst (GrantsBefore range (asked_end a range) a) (sym (ap (λ (k : Arena). record k { room = a.room }) kept ∙ (λ j. record b { room = sym room j }))) grants;
}

-- more room alone
pub more_room : (a b d : Arena) (s : Store) (t : Actors) → b ≡ a → d ≡ record b { room = d.room } → HasMoreRoom (seen a s t) (seen d s t)
more_room a b d s t same kept = record {
  same = (λ j. seen ((kept ∙ ap (λ (k : Arena). record k { room = d.room }) same) j) s t);
  slots = (0, sym (append-nil s.slots));
}
