-- The writes of a range were granted: the manager stands for the same.
use Rattle.std.proofs.Common.{◌≡◌, ℕ, zero, suc, ◌+◌, ◌≤◌, Bool, true, false, List, [], ◌∷◌, get_or, length, map, Option, Some, None, is_some, refl, sym, ap, ◌∙◌, subst, arith, inl, inr}
use Rattle.std.specs.Prelude.{if◌then◌else◌, IfSome, IsSome, Result, Ok, Err, option_map, option_and_then}
use Rattle.std.proofs.lemmas.Bool.{cases_eq, cases_lt}
use Rattle.vm_ids.specs.Held.{Held, segments_of}
use Rattle.vm_ids.specs.declared.command.Extent.{Extent}
use Rattle.vm_ids.specs.declared.numbers.PageNo.{PageNo}
use Rattle.vm_ids.specs.declared.numbers.SegId.{SegId}
use Rattle.vm_ids.specs.Forest.Shape.{IsBounded}
use Rattle.local_cache.specs.Arena.{Arena, Table, is_granted, table_at}
use Rattle.vm_ids.specs.declared.node_name.NodeName.{NodeName}
use Rattle.vm_ids.specs.declared.numbers.CacheId.{CacheId}
use Rattle.vm_ids.specs.declared.numbers.NodeId.{NodeId}
use Rattle.vm_ids.specs.Forest.Commands.{page_name}
use Rattle.local_cache.specs.Home.{home_named}
use Rattle.local_cache.specs.Reading as arena
use Rattle.local_cache.specs.Reading.{name_of}
use Rattle.fault_path.specs.Faults.{MayWrite}
use Rattle.page_commands.specs.Homes.{IsWritable, is_named}
use Rattle.local_cache.specs.Whole.{IsWhole, SameCaches, size_of}
use Rattle.residency.specs.declared.store.Store.{Store}
use Rattle.residency.specs.StoreForest.{store_forest}
use Rattle.residency.specs.World.{IsStoreRight, is_name_granted, world}
use Rattle.segment_ops.specs.Access.{GrantsBefore, IsAccess, without_grants}
use Rattle.vm_model.specs.Machine.{Machine}
use Rattle.vm_model.specs.Outcome.{HasWholePages}
use Rattle.vm_model.specs.PageForest.{PageForest}
use Rattle.contexts.specs.Actors.{Actors}
use Rattle.contexts.proofs.Placing.{right_weaker}
use Rattle.pvm_core.specs.Manager.{AreFull, AreSized, IsManagerSound, IsValid, cache_shown, caches_shown, forest_of, machine_by, machine_of, pages_shown, state_at}
use Rattle.pvm_core.specs.Writes.{GrantsWithin, KeepsNodes, OnlyAsked, SameGrants, asked_end}
use Rattle.vm_port.specs.declared.traits.mapper.Mapper.{Ghosts}
use Rattle.segment_ops.proofs.Granting.{granted_locks}
use Rattle.pvm_core.proofs.Holding.Made.{held_by_cells}
use Rattle.pvm_core.proofs.Homes.Full.{full_same}
use Rattle.pvm_core.proofs.Answering.Kept.{seen, sizeless, unsized_right}
use Rattle.pvm_core.proofs.Meaning.Same.{live_same}
use Rattle.pvm_core.proofs.Homes.Sized.{apart_same, sized_same}

-- a live cache whose table tells a segment
pub named_of : (o : Option Table) → is_some (option_and_then (λ (t : Table). t.segment) o) ≡ true → (s : SegId) × (option_map (λ (t : Table). t.segment) o ≡ Some (Some s))
named_of None e = absurd (cc e)
named_of (Some t) e = go t.segment refl e
  where
    go : (o : Option SegId) → t.segment ≡ o → is_some o ≡ true → (s : SegId) × (Some t.segment ≡ Some (Some s))
    go None is e = absurd (cc e)
    go (Some s) is e = (s, ap (λ (o : Option SegId). Some o) is)

-- and one that tells none
pub unnamed_of : (o : Option Table) (n : ℕ) → option_map (λ (t : Table). length t.pages) o ≡ Some n → is_some (option_and_then (λ (t : Table). t.segment) o) ≡ false → option_map (λ (t : Table). t.segment) o ≡ Some None
unnamed_of None n size e = absurd (cc size)
unnamed_of (Some t) n size e = go t.segment refl e
  where
    go : (o : Option SegId) → t.segment ≡ o → is_some o ≡ false → Some t.segment ≡ Some None
    go None is e = ap (λ (o : Option SegId). Some o) is
    go (Some s) is e = absurd (cc e)

-- Tables that differ in their grants alone

abbrev bare : List (Option Table) → List (Option Table)
bare ts = map (option_map without_grants) ts

bare_at : {X : Type 0} (read : Option Table → X) → ((o : Option Table) → read (option_map without_grants o) ≡ read o) → (ts : List (Option Table)) (k : ℕ) → read (get_or (bare ts) k None) ≡ read (get_or ts k None)
bare_at read alike [] k = refl
bare_at read alike (t ∷ ts) zero = alike t
bare_at read alike (t ∷ ts) (suc k) = bare_at read alike ts k

same_at : {X : Type 0} (read : Option Table → X) → ((o : Option Table) → read (option_map without_grants o) ≡ read o) → (ts us : List (Option Table)) → bare us ≡ bare ts → (cache : ℕ) → read (table_at us cache) ≡ read (table_at ts cache)
same_at read alike ts us e zero = refl
same_at read alike ts us e (suc k) = sym (bare_at read alike us k) ∙ ap (λ (xs : List (Option Table)). read (get_or xs k None)) e ∙ bare_at read alike ts k

bare_length : (ts : List (Option Table)) → length (bare ts) ≡ length ts
bare_length [] = refl
bare_length (t ∷ ts) = ap suc (bare_length ts)

one_size : (o : Option Table) → option_map (λ (t : Table). length t.pages) (option_map without_grants o) ≡ option_map (λ (t : Table). length t.pages) o
one_size None = refl
one_size (Some t) = refl

one_segment : (o : Option Table) → option_map (λ (t : Table). t.segment) (option_map without_grants o) ≡ option_map (λ (t : Table). t.segment) o
one_segment None = refl
one_segment (Some t) = refl

pub granted_same : (a b : Arena) → bare b.caches ≡ bare a.caches → SameCaches a b
granted_same a b e = record {
  count = sym (bare_length b.caches) ∙ ap (λ (xs : List (Option Table)). length xs) e ∙ bare_length a.caches;
  sizes = same_at (option_map (λ (t : Table). length t.pages)) one_size a.caches b.caches e;
  segments = same_at (option_map (λ (t : Table). t.segment)) one_segment a.caches b.caches e;
}

-- No cache is shown that wasn't, and each as it was

one_shown : (f : PageForest) (n : ℕ) (o p : Option Table) → option_map (λ (t : Table). length t.pages) p ≡ option_map (λ (t : Table). length t.pages) o → option_map (λ (t : Table). t.segment) p ≡ option_map (λ (t : Table). t.segment) o
    → option_map (cache_shown f n) p ≡ option_map (cache_shown f n) o
one_shown f n None None size segment = refl
one_shown f n (Some t) (Some u) size segment =
    let long : length u.pages ≡ length t.pages = cc size in
    let of : u.segment ≡ t.segment = cc segment in
    λ i. Some (record { segment = option_map (λ (s : SegId). s.0) (of i); pages = pages_shown f n 0 (long i) })
one_shown f n None (Some u) size segment = absurd (cc size)
one_shown f n (Some t) None size segment = absurd (cc size)

pub shown_same : (f : PageForest) (first : ℕ) (ts us : List (Option Table)) → length us ≡ length ts → ((k : ℕ) → option_map (λ (t : Table). length t.pages) (get_or us k None) ≡ option_map (λ (t : Table). length t.pages) (get_or ts k None))
    → ((k : ℕ) → option_map (λ (t : Table). t.segment) (get_or us k None) ≡ option_map (λ (t : Table). t.segment) (get_or ts k None)) → caches_shown f first us ≡ caches_shown f first ts
shown_same f first [] [] count sizes segments = refl
shown_same f first (t ∷ ts) (u ∷ us) count sizes segments = λ i. one_shown f first t u (sizes 0) (segments 0) i ∷ shown_same f (first + 1) ts us (omega (arith, count)) (λ k. sizes (suc k)) (λ k. segments (suc k)) i
shown_same f first [] (u ∷ us) count sizes segments = absurd (omega (arith, count))
shown_same f first (t ∷ ts) [] count sizes segments = absurd (omega (arith, count))

-- The manager

module _ (a b : Arena) (s : Store) (t : Actors) (live : ℕ) (stays : KeepsNodes a b) (i : IsManagerSound a s t live) where
  pub granted_sound : IsManagerSound b s t live
  granted_sound = record {
    nodes = stays.whole;
    apart = apart_same a b stays.same.segments i.apart;
    bounded = subst IsBounded (sym stays.nodes) i.bounded;
    slots = i.slots;
    counted = i.counted ∙ sym (live_same a b stays.same);
    few = i.few;
    loose = i.loose;
    locked = held_by_cells a b s t.actors stays.cells stays.locks i.nodes.sound.kept.listed stays.whole.sound.kept.listed i.locked;
    actors = right_weaker (size_of a) (size_of b) t (λ n k e. stays.same.sizes n ∙ e) i.actors;
    page = i.page;
  }

  pub granted_by : (f : PageForest) → machine_by (seen b s t) f ≡ machine_by (seen a s t) f
  granted_by f = λ j. record {
    page_bytes = t.page_bytes;
    frames = length s.frames.held;
    caches = shown_same f 1 a.caches b.caches stays.same.count (λ k. stays.same.sizes (suc k)) (λ k. stays.same.segments (suc k)) j;
    actors = t.actors;
    regions_made = t.regions_made;
  }

  module _ (h g : Option Held) (n m : Option ℕ) (told : g ≡ h) (forest : store_forest (world g m b s) ≡ store_forest (world h n a s)) where
    pub granted_forest : forest_of (seen b s t) g ≡ forest_of (seen a s t) h
    granted_forest = sym (sizeless g m b s) ∙ forest ∙ sizeless h n a s

    pub granted_machine : machine_of (seen b s t) g ≡ machine_of (seen a s t) h
    granted_machine = ap (machine_by (seen b s t)) granted_forest ∙ granted_by (forest_of (seen a s t) h)

    pub granted_state : state_at (seen b s t) g ≡ state_at (seen a s t) h
    granted_state = λ j. record { machine = granted_machine j; forest = Some (granted_forest j); segments = segments_of (told j) }

    pub granted_valid : IsStoreRight (world g m b s) → IsValid (seen a s t) h → IsValid (seen b s t) g
    granted_valid right v = record {
      right = unsized_right g m b s right;
      sized = sized_same a b g stays.same.segments stays.same.sizes (subst (λ (k : Option Held). AreSized a k) (sym told) v.sized);
      full = full_same a b t.page_bytes g stays.same.segments (subst (AreFull a t.page_bytes) (sym told) v.full);
      whole = subst (λ (m : Machine). IfSome g (λ _. HasWholePages m)) (sym granted_machine) (subst (λ (k : Option Held). IfSome k (λ _. HasWholePages (machine_of (seen a s t) h))) (sym told) v.whole);
    }

-- no grant goes
grants_stay : (range : Extent) (past : ℕ) (a b : Arena) → GrantsBefore range past a b → (cache page : ℕ) → is_granted a cache page ≡ true → is_granted b cache page ≡ true
grants_stay range past a b g cache page e = elim (cases_eq cache range.cache.0) [
  | inr d ↦ g.others cache page (λ same from below. d same) ∙ e
  | inl same ↦ elim (cases_lt page past) [
    | inr over ↦ g.others cache page (λ q from below. omega (arith, over, below)) ∙ e
    | inl below ↦ elim (cases_lt page range.first.0) [
      | inl before ↦ g.others cache page (λ q from less. omega (arith, before, from)) ∙ e
      | inr from ↦ ap (λ k. is_granted b k page) same ∙ g.granted page from below
    ]
  ]
]

pub grants_within : (range : Extent) (past : ℕ) (a b : Arena) → past ≤ range.first.0 + range.pages → GrantsBefore range past a b → GrantsWithin range a b
grants_within range past a b few g = record {
  kept = grants_stay range past a b g;
  others = λ cache page out. g.others cache page (λ same from below. out same (from, omega (arith, below, few)));
}

-- what an access grants, whatever the answer is: the pages before one of the range or its end
pub access_before : (range : Extent) (told : Option Held) (segment : SegId) (a b : Arena) (r : Result Bool PageNo) → IsAccess range told segment a b r → (past : ℕ) × (past ≤ range.first.0 + range.pages) × GrantsBefore range past a b
access_before range told segment a b (Ok true) d = (range.first.0 + range.pages, omega arith, d.grants)
access_before range told segment a b (Ok false) d = (d.page, omega (arith, d.asked.page_of.1), d.asked.grants)
access_before range told segment a b (Err page) d = (page.0, omega (arith, d.page_of.1), d.grants)

pub within_itself : (range : Extent) (a : Arena) → GrantsWithin range a a
within_itself range a = record { kept = λ cache page e. e; others = λ cache page out. refl }

-- and then the same pages are
pub within_then : (range : Extent) (a b d : Arena) → GrantsWithin range a b → SameGrants b d → GrantsWithin range a d
within_then range a b d w same = record {
  kept = λ cache page e. same cache page ∙ w.kept cache page e;
  others = λ cache page out. same cache page ∙ w.others cache page out;
}

-- as they are where the tables stay
pub tables_grants : (a b : Arena) → b.caches ≡ a.caches → SameGrants a b
tables_grants a b e cache page = ap (λ (ts : List (Option Table)). is_granted (record a { caches = ts }) cache page) e

-- of a temporary cache no page is asked for
pub unasked_grants : (a : Arena) (range : Extent) → is_named a range.cache ≡ false → GrantsBefore range (asked_end a range) a a
unasked_grants a range e = subst (λ (past : ℕ). GrantsBefore range past a a) (sym (ap (λ (b : Bool). range.first.0 + (if b then range.pages else 0)) e ∙ (let z : range.first.0 + 0 ≡ range.first.0 = omega arith in z))) (record {
  granted = λ page from below. absurd (omega (arith, from, below));
  others = λ cache page out. refl;
  tables = refl;
  rest = refl;
  none = λ e. refl;
})

-- and of a named one for all
pub all_asked : (a b : Arena) (range : Extent) → is_named a range.cache ≡ true → GrantsBefore range (range.first.0 + range.pages) a b → GrantsBefore range (asked_end a range) a b
all_asked a b range e = subst (λ (past : ℕ). GrantsBefore range past a b) (sym (ap (λ (b : Bool). range.first.0 + (if b then range.pages else 0)) e))

-- a mapper that wasn't called
pub asked_itself : {M : Type 0} (mapper : Ghosts M) (m : M) → OnlyAsked mapper m m
asked_itself mapper m = record { traffic = record { pulled = λ low. omega arith; pushed = λ low. omega arith }; held = refl; given = refl }

-- what was granted before a page of a range stays so
pub stays_granted : (range : Extent) (past : ℕ) (a b : Arena) → GrantsBefore range past a b → arena.forest_of b ≡ arena.forest_of a → IsWhole b → KeepsNodes a b
stays_granted range past a b g nodes whole = record {
  same = granted_same a b g.tables;
  cells = ap (λ (k : Arena). k.cells) g.rest;
  grants = grants_stay range past a b g;
  locks = granted_locks range past a b g;
  nodes = nodes;
  whole = whole;
  made = ap (λ (k : Arena). k.made) g.rest;
  copies = ap (λ (k : Arena). k.copies) g.rest;
  room = ap (λ (k : Arena). k.room) g.rest;
}

-- the node of a page that may be written
pub writable_node : (a : Arena) (n : NodeId) (cache : CacheId) (page : ℕ) → name_of a n ≡ page_name cache page → IsWritable a (page_name cache page) → MayWrite a n
writable_node a n cache page name writable home = ap (is_name_granted a) name ∙ writable (subst (λ (x : NodeName). IsSome (home_named a.caches x)) name home)
