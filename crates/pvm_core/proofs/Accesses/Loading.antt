-- What a load answers.
use Rattle.std.proofs.Common.{◌≡◌, ℕ, zero, suc, ◌+◌, ◌*◌, ◌<◌, ◌≤◌, List, [], ◌∷◌, length, take, drop, get_or, Option, Some, None, refl, sym, ap, ◌∙◌, subst, arith}
use Rattle.std.proofs.lemmas.List.Sums.{sum_by-cons}
use Rattle.std.specs.Prelude.{Result, Ok, Err, IfSome, IsOkAnd, IsSome, is_some, sum_by, option_map, option_and_then, slice_get, unwrap_or}
use Rattle.std.specs.Option.{option_map_or}
use Rattle.std.proofs.lemmas.List.{length-drop, length-replicate, length-take-le}
use Rattle.vm_ids.specs.Counting.{MapperCounts}
use Rattle.vm_ids.specs.Held.{Held, Segments, segments_of}
use Rattle.vm_ids.specs.declared.command.Command.TheVariants as commands
use Rattle.vm_ids.specs.declared.numbers.ActorId.{ActorId}
use Rattle.vm_ids.specs.declared.numbers.CacheId.{CacheId}
use Rattle.vm_ids.specs.declared.numbers.FrameId.{FrameId}
use Rattle.vm_ids.specs.declared.numbers.PageNo.{PageNo}
use Rattle.vm_ids.specs.declared.refusal.Refusal.{Refusal}
use Rattle.vm_ids.specs.declared.reply.Reply.TheVariants as replies
use Rattle.vm_ids.specs.declared.reply.Trouble.TheVariants as troubles
use Rattle.vm_ids.specs.Forest.Commands.{page_name}
use Rattle.vm_ids.specs.Forest.Shape.{IsWellShaped}
use Rattle.vm_ids.specs.Forest.Reading.{owner_of, value_of}
use Rattle.vm_ids.specs.declared.node_name.NodeName.{NodeName}
use Rattle.vm_ids.specs.declared.numbers.NodeId.{NodeId}
use Rattle.vm_ids.specs.Forest.NameMap.{get}
use Rattle.vm_ids.specs.Forest.Nodes.{Forest, IsNode, Node, childless, node}
use Rattle.vm_ids.specs.Forest.Nodes.Hang.{Root}
use Rattle.vm_ids.proofs.Forest.Laws.Reading.{nodes_have_values, owners_own_values}
use Rattle.local_cache.specs.Reading as arena
use Rattle.local_cache.specs.Reading.{name_of}
use Rattle.local_cache.proofs.Forest.Reading.{IsNode-forest_of, forest_of-IsNode}
use Rattle.fault_path.specs.Faults.{IsOwner}
use Rattle.vm_ids.proofs.Forest.PageMap.{value_of-map}
use Rattle.local_cache.specs.Arena.{Arena, HasNode, Table, page_count, table_at, table_of}
use Rattle.residency.specs.declared.miss.Miss.{Miss}
use Rattle.residency.specs.declared.miss.Miss.TheVariants.{Pull, Victim}
use Rattle.residency.specs.declared.store.Store.{Store}
use Rattle.residency.specs.Causes.{HasMissCause}
use Rattle.residency.specs.World.{world}
use Rattle.fault_path.specs.Faults.{found_page}
use Rattle.local_cache.specs.Sound.{IsSound}
use Rattle.local_cache.specs.Whole.{IsWhole, size_of}
use Rattle.vm_model.specs.Answering.{bytes_at, load_of, page_at, refuse, reply, with_ok}
use Rattle.vm_model.specs.Machine.{Cache, Machine, Page, cache_of}
use Rattle.vm_model.specs.Outcome.{Outcome, OutcomeAt}
use Rattle.vm_model.specs.PageForest.{PageForest, page_in}
use Rattle.vm_model.specs.Place.{Place, place}
use Rattle.pvm_core.specs.Manager.{Manager, forest_of, machine_by, machine_of, shown, state_at}
use Rattle.pvm_core.specs.Pieces.{bytes_found, fault_at}
use Rattle.pvm_core.proofs.Answering.Answered.{no_segments}
use Rattle.pvm_core.proofs.Answering.Rising.{grown_some, rises_between}
use Rattle.pvm_core.proofs.Meaning.Values.{blank_of, page_shown, value_there, zeroed, zeroed_whole, zeros_by}
use Rattle.vm_model.specs.Run.{IsUnrefused}

-- Rows

module _ (m : Machine) (actor address n : ℕ) where
  pub load_refused : (r : Refusal) → Err r ≡ place m actor address n → load_of m actor address n ≡ refuse m r
  unfolding load_of with_ok
  load_refused r e = let back = sym e in rw back refl

  pub load_row : (at : Place) → Ok at ≡ place m actor address n → load_of m actor address n ≡ reply (replies.Bytes (bytes_at m at n)) m
  unfolding load_of with_ok
  load_row at e = let back = sym e in rw back refl

-- the page under a place
pub page_at_is : (m : Machine) (at : Place) (v : Page) → page_in m at.region.cache at.page ≡ Some v → page_at m at ≡ v
page_at_is m at v e = go (cache_of m at.region.cache) refl e
  where
    some : (o : Option Page) → o ≡ Some v → unwrap_or o [] ≡ v
    some None q = absurd (cc q)
    some (Some x) q = (let s : x ≡ v = cc q in s)

    go : (o : Option Cache) → cache_of m at.region.cache ≡ o → option_and_then (λ (c : Cache). slice_get c.pages at.page) o ≡ Some v → option_map_or (λ (c : Cache). unwrap_or (slice_get c.pages at.page) []) (cache_of m at.region.cache) [] ≡ v
    go None there q = absurd (cc q)
    go (Some c) there q = ap (λ (o : Option Cache). option_map_or (λ (c : Cache). unwrap_or (slice_get c.pages at.page) []) o []) there ∙ some (slice_get c.pages at.page) q

-- a page of a live cache
pub sized_table : (o : Option Table) (n : ℕ) → option_map (λ (t : Table). length t.pages) o ≡ Some n → (t : Table) × (o ≡ Some t) × (length t.pages ≡ n)
sized_table None n e = absurd (cc e)
sized_table (Some t) n e = (t, refl, (let s : length t.pages ≡ n = cc e in s))

module _ (p : Manager) (cache : CacheId) (page count : ℕ) (size : size_of p.caches cache.0 ≡ Some count) (less : page < count) where
  pub page_is : (f : PageForest) (at : Place) → at.region.cache ≡ cache.0 → at.page ≡ page → page_at (machine_by p f) at ≡ shown (value_of f (page_name cache page))
  page_is f at of on =
      let t = sized_table (table_of p.caches cache.0) count size in
      page_at_is (machine_by p f) at (shown (value_of f (page_name cache page)))
      ((λ i. page_in (machine_by p f) (of i) (on i)) ∙ page_shown f p cache page t.0 t.1 (omega (arith, less, t.2)))

  pub zeros_long : (h : Option Held) → IsWhole p.caches → length (shown (value_of (zeroed p h) (page_name cache page))) ≡ p.page_bytes
  zeros_long h nodes = go (value_of (forest_of p h) (page_name cache page)) (value_of-map (zeros_by p.page_bytes) (forest_of p h) (page_name cache page)) (value_there p h nodes cache page count size less)
    where
      go : {x : Option (Option Page)} (o : Option (Option Page)) → x ≡ option_map (zeros_by p.page_bytes) o → IsSome o → length (shown x) ≡ p.page_bytes
      go None e some = absurd (cc some)
      go (Some v) e some = ap (λ y. length (shown y)) e ∙ length-replicate p.page_bytes 0

  -- so many bytes of it
  pub part_long : (h : Option Held) (at : Place) (n : ℕ) → IsWhole p.caches → at.region.cache ≡ cache.0 → at.page ≡ page → at.byte + n ≤ p.page_bytes → length (bytes_at (machine_by p (zeroed p h)) at n) ≡ n
  part_long h at n nodes of on fits =
      let xs = page_at (machine_by p (zeroed p h)) at in
      let long : length xs ≡ p.page_bytes = ap (λ (xs : Page). length xs) (page_is (zeroed p h) at of on) ∙ zeros_long h nodes in
      length-take-le n (drop at.byte xs) (omega (arith, length-drop at.byte xs, long, fits))

-- the bytes that a read fault found
found_shown : (g : Held) (i : Option ℕ) (b : Arena) (s : Store) (found : Option FrameId) → shown (Some (found_page (world (Some g) i b s) found)) ≡ bytes_found s found
found_shown g i b s None = refl
found_shown g i b s (Some f) = refl

-- a fault of a load
pub load_fault : (k : ℕ) (m next : Machine) (f : PageForest) (actor : ActorId) (address n : ℕ) (s : Segments) (c d : MapperCounts) (miss : Miss) (page : PageNo) (at : Place) → next ≡ m → Ok at ≡ place m actor.0 address n → at.page ≡ page.0 → HasMissCause c d miss
    → Outcome m (Some f) (commands.Load actor address n) s (Err (troubles.Mapper (fault_at miss page))) next (rises_between k c d)
load_fault k m next f actor address n s c d Pull page at same is on cause =
    let row = load_row m actor.0 address n at is in
    (same, grown_some k c.faults d.faults cause.faults, (subst (λ (r : Result Place Refusal). IsOkAnd r (λ (at : Place). at.page ≡ page.0)) is on, grown_some k c.pulls d.pulls cause.pulls), rw row tt)
load_fault k m next f actor address n s c d Victim page at same is on cause =
    let row = load_row m actor.0 address n at is in
    (same, grown_some k c.faults d.faults cause.faults, grown_some k c.pushes d.pushes cause.pushes, rw row tt)

-- the bytes that were loaded
module _ (p q : Manager) (h g : Option Held) (i : Option ℕ) (b : Arena) (s : Store) (actor : ActorId) (address n : ℕ) (at : Place) (cache : CacheId) (page count : ℕ) (found : Option FrameId) (piece : List ℕ) (rises : MapperCounts)
    (nodes : IsWhole p.caches) (is : (f : PageForest) → Ok at ≡ place (machine_by p f) actor.0 address n) (of : at.region.cache ≡ cache.0) (on : at.page ≡ page) (size : size_of p.caches cache.0 ≡ Some count) (less : page < count) (fits : at.byte + n ≤ p.page_bytes)
    (piece_is : piece ≡ take n (drop at.byte (bytes_found s found))) (long : length piece ≡ n) (value : value_of (forest_of p h) (page_name cache page) ≡ Some (found_page (world g i b s) found))
    (segs : is_some (segments_of g) ≡ is_some (segments_of h)) (by : (f : PageForest) → machine_by q f ≡ machine_by p f) (same : machine_of q g ≡ machine_of p h) where
  pub loaded : OutcomeAt (segments_of g) (machine_of p h) (Some (forest_of p h)) (commands.Load actor address n) (Ok (replies.Bytes piece)) (machine_of q g) rises
  loaded = go g h refl refl segs
    where
      go : (k j : Option Held) → g ≡ k → h ≡ j → is_some (segments_of k) ≡ is_some (segments_of j) → OutcomeAt (segments_of k) (machine_of p h) (Some (forest_of p h)) (commands.Load actor address n) (Ok (replies.Bytes piece)) (machine_of q g) rises
      go (Some k) j e e2 segs =
          load_row (machine_of p h) actor.0 address n at (is (forest_of p h))
          ∙ (λ x. reply (replies.Bytes ((ap (λ (y : Page). take n (drop at.byte y)) (page_is p cache page count size less (forest_of p h) at of on ∙ ap shown value ∙ ap (λ (t : Option Held). shown (Some (found_page (world t i b s) found))) e ∙ found_shown k i b s found) ∙ sym piece_is) x)) (sym same x))
      go None None e e2 segs = record {
        whole = machine_by p (zeroed p h);
        whole_next = machine_by p (zeroed p h);
        segments = no_segments;
        whole_answer = Ok (replies.Bytes (bytes_at (machine_by p (zeroed p h)) at n));
        is = ap (machine_of p) e2 ∙ blank_of p (zeroed p h) nodes;
        is_next = same ∙ ap (machine_of p) e2 ∙ blank_of p (zeroed p h) nodes;
        pages = zeroed_whole p h nodes;
        alike = part_long p cache page count size less h at n nodes of on fits ∙ sym long;
        outcome = load_row (machine_by p (zeroed p h)) actor.0 address n at (is (zeroed p h));
      }
      go None (Some j) e e2 segs = absurd (cc segs)

-- Owners

pub own_node : {P : Type 0} (f : Forest P) (y : NodeName) → IsSome (node f y).own → IsNode f y
unfolding node
own_node f y some = go (get f.nodes y) refl some
  where
    go : (o : Option (Node _)) → get f.nodes y ≡ o → IsSome (unwrap_or o (childless None Root)).own → IsSome (get f.nodes y)
    go None e s = absurd (cc s)
    go (Some k) e s = ap is_some e

-- each node has an owner
pub owner_held : (a : Arena) → IsSound a → IsWellShaped (arena.forest_of a) → (n : NodeId) → HasNode a n → (o : NodeId) × IsOwner a n o
owner_held a sound shaped n held =
    let f = arena.forest_of a in
    let x = name_of a n in
    let is = IsNode-forest_of a sound.kept.named n held in
    let some = subst IsSome (sym (owners_own_values f shaped x is)) ((nodes_have_values f shaped x).0 is) in
    let at = forest_of-IsNode a (owner_of f x) (own_node f (owner_of f x) some) in
    (at.0, record { held = at.1; name = at.2 })

pub owner_there : (a : Arena) → IsWhole a → (n : NodeId) → HasNode a n → (o : NodeId) × IsOwner a n o
owner_there a w = owner_held a w.sound w.consistent.shaped

-- a cache has no more pages than there are live ones
le_sum : (ts : List (Option Table)) (k : ℕ) (t : Table) → get_or ts k None ≡ Some t → length t.pages ≤ sum_by page_count ts
le_sum [] k t e = absurd (cc e)
le_sum (x ∷ ts) zero t e = omega (arith, sum_by-cons page_count x ts, ap page_count e)
le_sum (x ∷ ts) (suc k) t e = omega (arith, sum_by-cons page_count x ts, le_sum ts k t e)

at_le : (ts : List (Option Table)) (n : ℕ) (t : Table) → table_at ts n ≡ Some t → length t.pages ≤ sum_by page_count ts
at_le ts zero t e = absurd (cc e)
at_le ts (suc k) t e = le_sum ts k t e

pub size_le : (a : Arena) (n count : ℕ) → size_of a n ≡ Some count → count ≤ sum_by page_count a.caches
size_le a n count e = let t = sized_table (table_of a n) count e in omega (arith, at_le a.caches n t.0 t.1, t.2)

pub found_within : (found : Option FrameId) (P : FrameId → Type 0) (m n : ℕ) → m ≡ n → IfSome found (λ f. (f.0 < m) × P f) → IfSome found (λ f. f.0 < n)
found_within None P m n e h = tt
found_within (Some f) P m n e h = omega (arith, h.0, e)

-- there are four places for translations for each frame
pub found_place : (found : Option FrameId) (P : FrameId → Type 0) (m n places : ℕ) → m ≡ n → places ≡ 4 * n → IfSome found (λ f. (f.0 < m) × P f) → IfSome found (λ f. 4 * f.0 + 4 ≤ places)
found_place None P m n places e many h = tt
found_place (Some f) P m n places e many h = omega (arith, h.0, e, many)

-- A load that has a place is refused by nothing.
pub load_unrefused : (p : Manager) (h : Option Held) → IsWhole p.caches → (actor : ActorId) (address n : ℕ) (at : Place) → ((f : PageForest) → Ok at ≡ place (machine_by p f) actor.0 address n) → IsUnrefused (state_at p h) (commands.Load actor address n)
load_unrefused p None nodes actor address n at is = record {
  reply = replies.Bytes (bytes_at (machine_by p (zeroed p None)) at n);
  next = machine_of p None;
  outcome = record {
    whole = machine_by p (zeroed p None);
    whole_next = machine_by p (zeroed p None);
    segments = no_segments;
    whole_answer = Ok (replies.Bytes (bytes_at (machine_by p (zeroed p None)) at n));
    is = blank_of p (zeroed p None) nodes;
    is_next = blank_of p (zeroed p None) nodes;
    pages = zeroed_whole p None nodes;
    alike = refl;
    outcome = load_row (machine_by p (zeroed p None)) actor.0 address n at (is (zeroed p None));
  };
}
load_unrefused p (Some k) nodes actor address n at is = record {
  reply = replies.Bytes (bytes_at (machine_of p (Some k)) at n);
  next = machine_of p (Some k);
  outcome = load_row (machine_of p (Some k)) actor.0 address n at (is (forest_of p (Some k)));
}
