-- What a store answers.
use Rattle.vm_model.specs.Run.{IsUnrefused}
use Rattle.std.proofs.Common.{◌≡◌, ℕ, ◌+◌, ◌-◌, ◌<◌, ◌≤◌, Bool, true, false, List, [], length, Option, Some, None, refl, sym, ap, ◌∙◌, subst, arith}
use Rattle.std.specs.Prelude.{Result, Ok, Err, IfSome, IsOkAnd, is_some, option_map, option_and_then}
use Rattle.std.specs.Option.{option_map_or}
use Rattle.std.specs.List.{All}
use Rattle.std.proofs.lemmas.List.Elements.{All-set}
use Rattle.vm_ids.specs.Counting.{MapperCounts, Rose}
use Rattle.vm_ids.specs.Denying.{denies}
use Rattle.vm_ids.specs.Held.{Held, Segments, segments_in, segments_of}
use Rattle.vm_ids.specs.declared.command.Command.TheVariants as commands
use Rattle.vm_ids.specs.declared.numbers.ActorId.{ActorId}
use Rattle.vm_ids.specs.declared.numbers.PageNo.{PageNo}
use Rattle.vm_ids.specs.declared.refusal.Refusal.{Refusal}
use Rattle.vm_ids.specs.declared.reply.Reply.TheVariants as replies
use Rattle.vm_ids.specs.declared.reply.FaultAt.TheVariants as faults
use Rattle.vm_ids.specs.declared.reply.Trouble.TheVariants as troubles
use Rattle.vm_ids.specs.Forest.Commands.{lock, page_name}
use Rattle.vm_ids.specs.Forest.Reading.{value_of}
use Rattle.vm_ids.specs.Forest.Rules.{owned, write}
use Rattle.vm_ids.specs.declared.node_name.NodeName.{NodeName}
use Rattle.vm_ids.proofs.Forest.Counters.{heir_gets-copies-most, owned-copies}
use Rattle.frame_pool.specs.Pool.{with_bytes}
use Rattle.local_cache.specs.Arena.{Arena, Table, table_of}
use Rattle.residency.specs.declared.miss.Miss.{Miss}
use Rattle.residency.specs.declared.miss.Miss.TheVariants.{Pull, Victim}
use Rattle.residency.specs.declared.store.Store.{Store}
use Rattle.residency.specs.Causes.{HasMissCause}
use Rattle.residency.specs.StoreForest.{store_forest}
use Rattle.residency.specs.World.{IsStoreRight, World, is_clean, is_name_granted, world}
use Rattle.residency.proofs.Worlds.After.{written_right}
use Rattle.residency.proofs.Forests.WrittenForest.{store_copies}
use Rattle.fault_path.specs.Faults.{readied}
use Rattle.local_cache.specs.declared.own_state.OwnState.TheVariants.{Resident}
use Rattle.local_cache.specs.Home.{home_named}
use Rattle.local_cache.specs.Own.{own_of}
use Rattle.local_cache.specs.Whole.{IsWhole, segment_of, size_of}
use Rattle.local_cache.proofs.Forest.Reading.{forest_of-IsNode}
use Rattle.global_map.specs.Pairs.{node_of}
use Rattle.page_commands.specs.Homes.{IsWritable}
use Rattle.vm_ids.specs.declared.numbers.CacheId.{CacheId}
use Rattle.vm_ids.specs.declared.numbers.NodeId.{NodeId}
use Rattle.vm_ids.specs.declared.numbers.SegId.{SegId}
use Rattle.vm_model.specs.Answering.{is_denied_page, overwrite, reply, store_of, write_at}
use Rattle.vm_model.specs.Following.{forest_after, pages_passed}
use Rattle.vm_ids.specs.declared.command.Command.{Command}
use Rattle.vm_model.specs.Laws.{IsFollowed}
use Rattle.vm_model.specs.Machine.{Cache, Machine, Page, cache_of}
use Rattle.vm_model.specs.Outcome.{IsWhole as IsWholeCache}
use Rattle.vm_model.specs.Answering.{put_page}
use Rattle.vm_model.proofs.Parts.Lists.{length-overwrite}
use Rattle.vm_model.proofs.Machines.Sound.{numbered-all}
use Rattle.vm_model.specs.Outcome.{HasWholePages, IsNamed, NotRefusedButFor, Outcome, OutcomeAt, blank}
use Rattle.vm_model.specs.PageForest.{PageForest}
use Rattle.vm_model.specs.Place.{Place, place}
use Rattle.contexts.specs.Actors.{Actors}
use Rattle.pvm_core.specs.Manager.{IsManagerSound, Manager, cache_shown, forest_of, machine_by, machine_of, shown, world_of, state_at}
use Rattle.pvm_core.specs.Pieces.{fault_at}
use Rattle.pvm_core.proofs.Answering.Answered.{no_segments}
use Rattle.pvm_core.proofs.Accesses.Loading.{zeros_long}
use Rattle.pvm_core.proofs.Holding.Made.{held_by_store}
use Rattle.pvm_core.proofs.Answering.Rising.{grown_some, rises_between}
use Rattle.pvm_core.proofs.Meaning.Shown.{id_of, numbered-caches}
use Rattle.pvm_core.proofs.Accesses.Storing.{blank_written, cache_is, machine_written, store_denied, store_row, write_is}
use Rattle.pvm_core.proofs.Meaning.Values.{blank_of, page_shown, whole_page, zeroed, zeroed_whole}

-- other bytes in a frame
pub bytes_sound : (b : Arena) (s u : Store) (t : Actors) (live f : ℕ) (bytes : List ℕ) → u ≡ record s { frames = with_bytes s.frames f bytes } → IsManagerSound b s t live → IsManagerSound b u t live
bytes_sound b s u t live f bytes e i = subst (λ (u : Store). IsManagerSound b u t live) (sym e) (record {
  nodes = i.nodes;
  apart = i.apart;
  bounded = i.bounded;
  slots = i.slots;
  counted = i.counted;
  few = i.few;
  loose = i.loose;
  locked = held_by_store b s (record s { frames = with_bytes s.frames f bytes }) t.actors refl refl refl i.locked;
  actors = i.actors;
  page = i.page;
})

-- What is denied

-- a page of a segment is denied or not by the list of those that are
pub denied_by : (p : Manager) (f : PageForest) (s : Segments) (n page : ℕ) → is_denied_page (machine_by p f) s n page ≡ option_map_or (λ (z : SegId). denies s.denied z.0 page) (option_and_then (λ (t : Table). t.segment) (table_of p.caches n)) false
denied_by p f s n page = ap (λ (o : Option Cache). option_map_or (λ seg. denies s.denied seg page) (option_and_then (λ (c : Cache). c.segment) o) false) (numbered-caches f p.caches.caches n) ∙ by_table (table_of p.caches n)
  where
    by_segment : (z : Option SegId) → option_map_or (λ (seg : ℕ). denies s.denied seg page) (option_map (λ (z : SegId). z.0) z) false ≡ option_map_or (λ (z : SegId). denies s.denied z.0 page) z false
    by_segment None = refl
    by_segment (Some z) = refl

    by_table : (o : Option Table) → option_map_or (λ (seg : ℕ). denies s.denied seg page) (option_and_then (λ (c : Cache). c.segment) (option_map (cache_shown f n) o)) false ≡ option_map_or (λ (z : SegId). denies s.denied z.0 page) (option_and_then (λ (t : Table). t.segment) o) false
    by_table None = refl
    by_table (Some t) = by_segment t.segment

none_denied : (z : Option SegId) (page : ℕ) → option_map_or (λ (z : SegId). denies [] z.0 page) z false ≡ false
none_denied None page = refl
none_denied (Some z) page = refl

-- where none is, none is
pub undenied_blank : (p : Manager) (f : PageForest) (n page : ℕ) → is_denied_page (machine_by p f) no_segments n page ≡ false
undenied_blank p f n page = denied_by p f no_segments n page ∙ none_denied (option_and_then (λ (t : Table). t.segment) (table_of p.caches n)) page

-- a page that may be written isn't denied
pub undenied : (p : Manager) (h : Option Held) → IsWhole p.caches → IsStoreRight (world_of p h) → (cache : CacheId) (page count : ℕ) → size_of p.caches cache.0 ≡ Some count → page < count → IsWritable p.caches (page_name cache page)
    → (f : PageForest) (g : Option Held) (s : Segments) → option_map (λ (s : Segments). s.denied) (segments_of g) ≡ option_map (λ (s : Segments). s.denied) (segments_of h) → segments_of g ≡ Some s → is_denied_page (machine_by p f) s cache.0 page ≡ false
undenied p h nodes right cache page count size less writable f g s denied is = denied_by p f s cache.0 page ∙ by_segment (option_and_then (λ (t : Table). t.segment) (table_of p.caches cache.0)) refl
  where
    x : NodeName
    x = page_name cache page

    -- the same list
    list_of : (k : Option Held) → h ≡ k → (k : Held) × (h ≡ Some k) × (s.denied ≡ k.denied)
    list_of None e = absurd (let q : Some s.denied ≡ None = ap (option_map (λ (s : Segments). s.denied)) (sym is) ∙ denied ∙ ap (λ (k : Option Held). option_map (λ (s : Segments). s.denied) (segments_of k)) e in cc q)
    list_of (Some k) e = (let q : Some s.denied ≡ Some k.denied = ap (option_map (λ (s : Segments). s.denied)) (sym is) ∙ denied ∙ ap (λ (k : Option Held). option_map (λ (s : Segments). s.denied) (segments_of k)) e in (k, e, (let d : s.denied ≡ k.denied = cc q in d)))

    by_segment : (z : Option SegId) → option_and_then (λ (t : Table). t.segment) (table_of p.caches cache.0) ≡ z → option_map_or (λ (z : SegId). denies s.denied z.0 page) (option_and_then (λ (t : Table). t.segment) (table_of p.caches cache.0)) false ≡ false
    by_segment None e = ap (λ (z : Option SegId). option_map_or (λ (z : SegId). denies s.denied z.0 page) z false) e
    by_segment (Some z) e =
        let home : home_named p.caches.caches x ≡ Some (record { segment = z; page = record { 0 = page } }) = ap (option_map (λ (segment : SegId). record { segment = segment; page = record { 0 = page } })) e in
        let granted : is_name_granted p.caches x ≡ true = writable (ap is_some home) in
        let at = forest_of-IsNode p.caches x (nodes.pages cache page count size less) in
        let allowed = right.granted.allowed at.0 (record { segment = z; page = record { 0 = page } }) (ap (home_named p.caches.caches) at.2 ∙ home) (ap (is_name_granted p.caches) at.2 ∙ granted) in
        let k = list_of h refl in
        let undenied_there : denies k.0.denied z.0 page ≡ false = subst (λ (o : Option Held). IfSome o (λ h. denies h.denied z.0 page ≡ false)) k.1 allowed in
        ap (λ (o : Option SegId). option_map_or (λ (z : SegId). denies s.denied z.0 page) o false) e ∙ ap (λ (d : List (ℕ × ℕ)). denies d z.0 page) k.2 ∙ undenied_there

-- a fault of a store
pub store_fault : (k : ℕ) (m next : Machine) (f : PageForest) (actor : ActorId) (address : ℕ) (bytes : List ℕ) (s : Segments) (c d : MapperCounts) (miss : Miss) (page : PageNo) (at : Place) → next ≡ m → Ok at ≡ place m actor.0 address (length bytes) → at.region.may_write ≡ true
    → is_denied_page m s at.region.cache at.page ≡ false → at.page ≡ page.0 → HasMissCause c d miss → Outcome m (Some f) (commands.Store actor address bytes) s (Err (troubles.Mapper (fault_at miss page))) next (rises_between k c d)
store_fault k m next f actor address bytes s c d Pull page at same is may allowed on cause =
    let row = store_row m actor.0 address bytes s at is may allowed in
    (same, grown_some k c.faults d.faults cause.faults, (subst (λ (r : Result Place Refusal). IsOkAnd r (λ (at : Place). at.page ≡ page.0)) is on, grown_some k c.pulls d.pulls cause.pulls), rw row tt)
store_fault k m next f actor address bytes s c d Victim page at same is may allowed on cause =
    let row = store_row m actor.0 address bytes s at is may allowed in
    (same, grown_some k c.faults d.faults cause.faults, grown_some k c.pushes d.pushes cause.pushes, rw row tt)

-- the mapper failed when it was asked for the write of the page
pub access_fault : (k : ℕ) (m next : Machine) (f : PageForest) (actor : ActorId) (address : ℕ) (bytes : List ℕ) (s : Segments) (c d : MapperCounts) (page : PageNo) (at : Place) → next ≡ m → Ok at ≡ place m actor.0 address (length bytes) → at.region.may_write ≡ true
    → at.page ≡ page.0 → IsNamed m at.region.cache → Rose c.faults d.faults → Outcome m (Some f) (commands.Store actor address bytes) s (Err (troubles.Mapper (faults.Access page))) next (rises_between k c d)
access_fault k m next f actor address bytes s c d page at same is may on named rose = (
  same,
  grown_some k c.faults d.faults rose,
  (
    subst (λ (r : Result Place Refusal). IsOkAnd r (λ (at : Place). at.page ≡ page.0)) is on,
    subst (λ (r : Result Place Refusal). IsOkAnd r (λ (at : Place). IsNamed m at.region.cache)) is named,
  ),
  go (is_denied_page m s at.region.cache at.page) refl,
)
  where
    go : (b : Bool) → is_denied_page m s at.region.cache at.page ≡ b → NotRefusedButFor (faults.Access page) (store_of m actor.0 address bytes s).answer
    go true e = let row = store_denied m actor.0 address bytes s at is may e in rw row tt
    go false e = let row = store_row m actor.0 address bytes s at is may e in rw row tt

-- a cache of a segment is named in the machine
pub named_in : (p : Manager) (f : PageForest) (n : ℕ) (s : SegId) → segment_of p.caches n ≡ Some (Some s) → IsNamed (machine_by p f) n
named_in p f n s e = ap (λ (o : Option Cache). option_map_or (λ (c : Cache). is_some c.segment) o false) (numbered-caches f p.caches.caches n) ∙ by_table (table_of p.caches n) e
  where
    by_table : (o : Option Table) → option_map (λ (t : Table). t.segment) o ≡ Some (Some s) → option_map_or (λ (c : Cache). is_some c.segment) (option_map (cache_shown f n) o) false ≡ true
    by_table None q = absurd (cc q)
    by_table (Some t) q = (let z : t.segment ≡ Some s = cc q in ap (λ (o : Option SegId). is_some (option_map (λ (s : SegId). s.0) o)) z)

-- at most two pages are copied
pub copied_most : (w v : World) (x : NodeName) → store_forest v ≡ readied (store_forest w) x → v.caches.copies ≤ w.caches.copies + 2
copied_most w v x e =
    let a = owned-copies (store_forest w) x in
    let b = heir_gets-copies-most (owned (store_forest w) x) x in
    omega (arith, a, b, store_copies w, store_copies v, ap (λ f. f.copies) e)

module _ (p q : Manager) (h g : Option Held) (actor : ActorId) (address : ℕ) (at : Place) (bytes : List ℕ) (t : Table) (there : table_of p.caches at.region.cache ≡ Some t) (less : at.page < length t.pages) (fits : at.byte + length bytes ≤ p.page_bytes) (some : 1 ≤ p.page_bytes)
    (tables : q.caches.caches ≡ p.caches.caches) (same : (q.page_bytes ≡ p.page_bytes) × (length q.store.frames.held ≡ length p.store.frames.held) × (q.actors ≡ p.actors) × (q.regions_made ≡ p.regions_made))
    (nodes : IsWhole p.caches) (then : IsWhole q.caches) (whole : IfSome h (λ _. HasWholePages (machine_of p h))) (followed : IsFollowed (machine_of p h) (forest_of p h))
    (rule : forest_of q g ≡ write (forest_of p h) (page_name (id_of at.region.cache) at.page) (option_map (overwrite at.byte bytes))) (segs : is_some (segments_of g) ≡ is_some (segments_of h)) (by : (f : PageForest) → machine_by q f ≡ machine_by p f) where
  abbrev x : NodeName
  x = page_name (id_of at.region.cache) at.page

  -- where bytes are told, the page has them all
  long : (k : Held) → h ≡ Some k → length (shown (value_of (forest_of p h) (page_name (id_of at.region.cache) at.page))) ≡ p.page_bytes
  long k e = whole_page p.page_bytes (machine_of p h) at.region.cache at.page (shown (value_of (forest_of p h) x)) (subst (λ (o : Option Held). IfSome o (λ _. HasWholePages (machine_of p h))) e whole) (page_shown (forest_of p h) p (id_of at.region.cache) at.page t there less)

  now : (k : Held) → h ≡ Some k → machine_of q g ≡ write_at (machine_of p h) at bytes
  now k e = machine_written p q (forest_of p h) at bytes tables same t there less (omega (arith, fits, long k e)) (forest_of q g) followed (omega (arith, some, long k e)) rule

  pub stored : ((f : PageForest) → Ok at ≡ place (machine_by p f) actor.0 address (length bytes)) → at.region.may_write ≡ true → ((f : PageForest) (s : Segments) → segments_of g ≡ Some s → is_denied_page (machine_by p f) s at.region.cache at.page ≡ false) → (rises : MapperCounts)
      → OutcomeAt (segments_of g) (machine_of p h) (Some (forest_of p h)) (commands.Store actor address bytes) (Ok replies.Done) (machine_of q g) rises
  stored is may allowed rises = go g h refl refl segs
    where
      go : (k j : Option Held) → g ≡ k → h ≡ j → is_some (segments_of k) ≡ is_some (segments_of j) → OutcomeAt (segments_of k) (machine_of p h) (Some (forest_of p h)) (commands.Store actor address bytes) (Ok replies.Done) (machine_of q g) rises
      go (Some k) (Some j) e e2 segs = store_row (machine_of p h) actor.0 address bytes (segments_in k) at (is (forest_of p h)) may (allowed (forest_of p h) (segments_in k) (ap segments_of e))
          ∙ ap (λ (m : Machine). reply replies.Done m) (sym (now j e2))
      go None None e e2 segs = record {
        whole = machine_by p (zeroed p h);
        whole_next = write_at (machine_by p (zeroed p h)) at bytes;
        segments = no_segments;
        whole_answer = Ok replies.Done;
        is = ap (machine_of p) e2 ∙ blank_of p (zeroed p h) nodes;
        is_next = ap (machine_of q) e ∙ blank_of q (zeroed p h) then ∙ ap blank (by (zeroed p h))
            ∙ sym (blank_written p q (zeroed p h) at bytes tables same t there less (omega (arith, fits, zeros_long p (id_of at.region.cache) at.page (length t.pages) (ap (option_map (λ (t : Table). length t.pages)) there) less h nodes)));
        pages = zeroed_whole p h nodes;
        alike = refl;
        outcome = store_row (machine_by p (zeroed p h)) actor.0 address bytes no_segments at (is (zeroed p h)) may (undenied_blank p (zeroed p h) at.region.cache at.page);
      }
      go (Some k) None e e2 segs = absurd (cc segs)
      go None (Some j) e e2 segs = absurd (cc segs)

  -- and its pages are whole still
  pub whole_stored : IfSome g (λ _. HasWholePages (machine_of q g))
  whole_stored = go g h refl refl segs
    where
      written : (j : Held) → h ≡ Some j → HasWholePages (machine_of p h) → HasWholePages (machine_of q g)
      written j e w =
          let v = shown (value_of (forest_of p h) (page_name (id_of at.region.cache) at.page)) in
          let fit : at.byte + length bytes ≤ length v = omega (arith, fits, long j e) in
          let c = cache_shown (forest_of p h) at.region.cache t in
          let here : cache_of (machine_of p h) at.region.cache ≡ Some c = cache_is p q (forest_of p h) at bytes tables same t there less fit in
          let pages : All (λ (y : Page). length y ≡ p.page_bytes) c.pages = numbered-all (IsWholeCache p.page_bytes) (machine_of p h).caches at.region.cache c here w in
          subst HasWholePages (sym (now j e ∙ write_is p q (forest_of p h) at bytes tables same t there less fit))
          (All-set (IsWholeCache p.page_bytes) (machine_of p h).caches (at.region.cache - 1) (Some (put_page at.page (overwrite at.byte bytes v) c))
          (All-set (λ (y : Page). length y ≡ p.page_bytes) c.pages at.page (overwrite at.byte bytes v) (length-overwrite at.byte bytes v fit ∙ long j e) pages) w)

      go : (k j : Option Held) → g ≡ k → h ≡ j → is_some (segments_of k) ≡ is_some (segments_of j) → IfSome k (λ _. HasWholePages (machine_of q g))
      go None j e e2 segs = tt
      go (Some k) (Some j) e e2 segs = written j e2 (subst (λ (o : Option Held). IfSome o (λ _. HasWholePages (machine_of p h))) e2 whole)
      go (Some k) None e e2 segs = absurd (cc segs)

-- the store is right with other bytes in a frame
pub bytes_right : (g : Option Held) (b : Arena) (s u : Store) (f : ℕ) (bytes : List ℕ) → u ≡ record s { frames = with_bytes s.frames f bytes } → IsStoreRight (world g None b s) → ((m : NodeId) → node_of s.map f ≡ Some m → is_clean (own_of b m) ≡ false) → IsStoreRight (world g None b u)
bytes_right g b s u f bytes e right dirty = subst (λ (u : Store). IsStoreRight (world g None b u)) (sym e) (written_right (world g None b s) f bytes right dirty)

-- a failed pull or push saves no page
pub not_saved : (miss : Miss) (page : PageNo) (f : PageForest) (m : Machine) (command : Command) (next : Machine) → pages_passed m command page.0 ≡ [] → forest_after f m command (Err (troubles.Mapper (fault_at miss page))) next ≡ f
not_saved Pull page f m command next none = ap (λ xs. lock xs f) none
not_saved Victim page f m command next none = refl

-- the frame of a dirty page has no other node
pub dirty_here : (b : Arena) (s : Store) (f : ℕ) (n : NodeId) → node_of s.map f ≡ Some n → own_of b n ≡ Resident true → (m : NodeId) → node_of s.map f ≡ Some m → is_clean (own_of b m) ≡ false
dirty_here b s f n at dirty m there =
    let both : Some n ≡ Some m = sym at ∙ there in
    let same : n ≡ m = cc both in
    ap (λ (k : NodeId). is_clean (own_of b k)) (sym same) ∙ ap is_clean dirty

-- where the forest stays, no page was copied
pub kept_copies : (h k : Option Held) (i j : Option ℕ) (a b : Arena) (s u : Store) → store_forest (world k j b u) ≡ store_forest (world h i a s) → b.copies ≡ a.copies
kept_copies h k i j a b s u e = sym (store_copies (world k j b u)) ∙ ap (λ f. f.copies) e ∙ store_copies (world h i a s)

-- A store that has a place, which may be written, is refused by nothing.
pub store_unrefused : (p : Manager) (h : Option Held) → IsWhole p.caches → (actor : ActorId) (address : ℕ) (bytes : List ℕ) (at : Place) → ((f : PageForest) → Ok at ≡ place (machine_by p f) actor.0 address (length bytes)) → at.region.may_write ≡ true
    → ((f : PageForest) (s : Segments) → segments_of h ≡ Some s → is_denied_page (machine_by p f) s at.region.cache at.page ≡ false) → IsUnrefused (state_at p h) (commands.Store actor address bytes)
store_unrefused p None nodes actor address bytes at is may allowed = record {
  reply = replies.Done;
  next = blank (write_at (machine_by p (zeroed p None)) at bytes);
  outcome = record {
    whole = machine_by p (zeroed p None);
    whole_next = write_at (machine_by p (zeroed p None)) at bytes;
    segments = no_segments;
    whole_answer = Ok replies.Done;
    is = blank_of p (zeroed p None) nodes;
    is_next = refl;
    pages = zeroed_whole p None nodes;
    alike = refl;
    outcome = store_row (machine_by p (zeroed p None)) actor.0 address bytes no_segments at (is (zeroed p None)) may (undenied_blank p (zeroed p None) at.region.cache at.page);
  };
}
store_unrefused p (Some k) nodes actor address bytes at is may allowed = record {
  reply = replies.Done;
  next = write_at (machine_of p (Some k)) at bytes;
  outcome = store_row (machine_of p (Some k)) actor.0 address bytes (segments_in k) at (is (forest_of p (Some k))) may (allowed (forest_of p (Some k)) (segments_in k) refl);
}
