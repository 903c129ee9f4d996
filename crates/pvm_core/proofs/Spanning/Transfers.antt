-- A copy and a move of pages: the machine after each.
use Rattle.std.proofs.Common.{◌≡◌, ℕ, zero, suc, ◌+◌, ◌-◌, ◌≤◌, Bool, false, List, ◌++◌, get_or, set, length, length-set, take, drop, Option, Some, None, option_map, refl, sym, ap, ◌∙◌, subst, arith, [], replicate, inl, inr}
use Rattle.std.specs.Prelude.{Ok, IfSome, nat_lt, ◌||◌, is_some, option_and_then, unwrap_or}
use Rattle.std.specs.List.{All}
use Rattle.std.specs.Option.{option_map_or}
use Rattle.std.proofs.lemmas.Bool.Decides.{nat_tests}
use Rattle.std.proofs.lemmas.List.{length-drop, length-take-le, length-replicate}
use Rattle.std.proofs.lemmas.List.Elements.{All-append, All-take, All-drop, All-set, All-replicate}
use Rattle.vm_ids.specs.Counting.{MapperCounts}
use Rattle.vm_ids.specs.Held.{Held, Segments, segments_in, segments_of}
use Rattle.vm_ids.specs.declared.command.Span.{Span}
use Rattle.vm_ids.specs.Forest.Commands.{copy, extent_names, span_pairs, move_}
use Rattle.vm_ids.specs.Forest.Saving.{saved}
use Rattle.vm_ids.specs.declared.numbers.SegId.{SegId}
use Rattle.local_cache.specs.Arena.{Arena, Table, table_at, table_of}
use Rattle.residency.specs.declared.store.Store.{Store}
use Rattle.residency.specs.StoreForest.{store_forest}
use Rattle.residency.specs.World.{world}
use Rattle.local_cache.specs.Whole.{IsWhole, SameCaches, size_of}
use Rattle.page_commands.specs.Steps.{ForAnyMapper, GivesBack, IsStoreTied, StaysRight, zeros_told}
use Rattle.page_commands.proofs.TiedStores.Tied.{tied_of}
use Rattle.vm_model.specs.Answering.{copy_of, is_any_denied, is_any_locked, overwrite, put_pages, reply, move_of, put_cache}
use Rattle.vm_model.specs.Answering.{is_named as model_named}
use Rattle.vm_model.specs.Machine.{Cache, Machine, Page, cache_of}
use Rattle.vm_model.specs.Outcome.{HasWholePages, OutcomeAt, blank}
use Rattle.vm_model.specs.PageForest.{PageForest, page_in, told}
use Rattle.vm_model.specs.Laws.{IsFollowed}
use Rattle.vm_model.proofs.Forests.Following.{IsAllowed, copied_followed, moved_followed, source_left, zero_left}
use Rattle.vm_model.proofs.Parts.Lists.{length-overwrite, at_number, numbered-set}
use Rattle.vm_model.proofs.Machines.Sound.{numbered-all}
use Rattle.contexts.specs.Actors.{Actors}
use Rattle.pvm_core.specs.Manager.{IsManagerSound, IsValid, Manager, cache_shown, caches_shown, forest_of, machine_by, machine_of}
use Rattle.pvm_core.proofs.Answering.Answered.{no_segments}
use Rattle.pvm_core.proofs.Answering.Changed.{blank_is, machine_is, put_shaped}
use Rattle.pvm_core.proofs.Meaning.Determined.{IsShaped}
use Rattle.pvm_core.proofs.Answering.Kept.{seen}
use Rattle.pvm_core.proofs.Meaning.Same.{shown_shaped}
use Rattle.pvm_core.proofs.Meaning.Shown.{length-pages, numbered-caches, shown_made}
use Rattle.pvm_core.proofs.Spanning.SpanRows.{IsOpen, copy_denied, copy_locked, copy_row, move_denied, move_locked, move_row, outside}
use Rattle.pvm_core.proofs.Spanning.Transferring.{IsTransfer, undenied_any}
use Rattle.pvm_core.specs.Locks.{any_locked}
use Rattle.pvm_core.specs.Spans.{read_from, replaced}
use Rattle.pvm_core.proofs.Holding.Counted.{any_same}
use Rattle.pvm_core.proofs.Homes.Full.{full_same}
use Rattle.pvm_core.proofs.Homes.Sized.{sized_same}
use Rattle.pvm_core.specs.Saving.{is_named}
use Rattle.page_commands.proofs.CommandSteps.Ranges.{destination_names}
use Rattle.pvm_core.proofs.Meaning.Values.{blank_of, followed_of, zeroed, zeroed_whole}
use Rattle.std.proofs.lemmas.Option.{get_or_from_slice_get}
use Rattle.pvm_core.proofs.NewCaches.NewCache.{told_zeros, zeros_for}
use Rattle.vm_ids.specs.declared.command.Command.TheVariants as commands
use Rattle.vm_ids.specs.declared.reply.Reply.TheVariants as replies
use Rattle.vm_model.specs.Outcome as outcome

inside : (a b : ℕ) → b ≤ a → nat_lt a b ≡ false
inside a b e = grind (arith, nat_tests)

both : (a b : Bool) → a ≡ false → b ≡ false → (a || b) ≡ false
both a b e f = rw (e, f) refl

pub table_place : (ts : List (Option Table)) (n : ℕ) (t : Table) → table_at ts n ≡ Some t → get_or ts (n - 1) None ≡ Some t
table_place ts zero t e = absurd (cc e)
table_place ts (suc k) t e = ap (λ (i : ℕ). get_or ts i None) (let s : suc k - 1 ≡ k = omega arith in s) ∙ e

pub all_overwrite : (P : Page → Type 0) (at : ℕ) (part whole : List Page) → All P part → All P whole → All P (overwrite at part whole)
all_overwrite P at part whole p w = All-append P (take at whole ++ part) (drop (at + length part) whole) (All-append P (take at whole) part (All-take P at whole w) p) (All-drop P (at + length part) whole w)

is_shown : (o : Option SegId) → is_some (option_map (λ (s : SegId). s.0) o) ≡ is_some o
is_shown None = refl
is_shown (Some s) = refl

-- a segment names the cache in the machine where it does in the tables
pub named_machine : (p : Manager) (f : PageForest) (n : ℕ) → model_named (machine_by p f) n ≡ is_named p.caches n
named_machine p f n = ap (λ (o : Option Cache). option_map_or (λ (c : Cache). is_some c.segment) o false) (numbered-caches f p.caches.caches n) ∙ by_table (table_of p.caches n)
  where
    by_table : (o : Option Table) → option_map_or (λ (c : Cache). is_some c.segment) (option_map (cache_shown f n) o) false ≡ is_some (option_and_then (λ (t : Table). t.segment) o)
    by_table None = refl
    by_table (Some t) = is_shown t.segment

-- and so it does in the cache that is there
pub named_there : (p : Manager) (f : PageForest) (n : ℕ) (c : Cache) → cache_of (machine_by p f) n ≡ Some c → is_some c.segment ≡ is_named p.caches n
named_there p f n c e = ap (λ (o : Option Cache). option_map_or (λ (c : Cache). is_some c.segment) o false) (sym e) ∙ named_machine p f n

module _ (b : Arena) (s : Store) (t : Actors) (live : ℕ) (k : IsManagerSound b s t live) (span : Span) (out : IsOpen (size_of b span.from.0) (size_of b span.to.0) (any_locked b (replaced span)) span) (from to : Table) (from_is : table_of b span.from.0 ≡ Some from) (to_is : table_of b span.to.0 ≡ Some to) (from_long : length from.pages ≡ out.from) (to_long : length to.pages ≡ out.to) where
  abbrev source : PageForest → Cache
  source f = cache_shown f span.from.0 from

  abbrev destination : PageForest → Cache
  destination f = cache_shown f span.to.0 to

  abbrev put : PageForest → Cache
  put f = put_pages span.to_page.0 (take span.pages (drop span.from_page.0 (cache_shown f span.from.0 from).pages)) (cache_shown f span.to.0 to)

  abbrev next : PageForest → List (Option Cache)
  next f = set (caches_shown f 1 b.caches) (span.to.0 - 1) (Some (put_pages span.to_page.0 (take span.pages (drop span.from_page.0 (cache_shown f span.from.0 from).pages)) (cache_shown f span.to.0 to)))

  source_there : (f : PageForest) → cache_of (machine_by (seen b s t) f) span.from.0 ≡ Some (cache_shown f span.from.0 from)
  source_there f = numbered-caches f b.caches span.from.0 ∙ ap (option_map (cache_shown f span.from.0)) from_is

  destination_there : (f : PageForest) → cache_of (machine_by (seen b s t) f) span.to.0 ≡ Some (cache_shown f span.to.0 to)
  destination_there f = numbered-caches f b.caches span.to.0 ∙ ap (option_map (cache_shown f span.to.0)) to_is

  source_long : (f : PageForest) → length (cache_shown f span.from.0 from).pages ≡ out.from
  source_long f = length-pages f span.from.0 0 (length from.pages) ∙ from_long

  destination_long : (f : PageForest) → length (cache_shown f span.to.0 to).pages ≡ out.to
  destination_long f = length-pages f span.to.0 0 (length to.pages) ∙ to_long

  allowed : (f : PageForest) → IsAllowed (machine_by (seen b s t) f) span (cache_shown f span.from.0 from) (cache_shown f span.to.0 to)
  allowed f = record { from = source_there f; to = destination_there f; source_ends = omega (arith, source_long f, out.from_ends); destination_ends = omega (arith, destination_long f, out.to_ends); apart = out.apart }

  outside_not : (f : PageForest) → outside (cache_shown f span.from.0 from) (cache_shown f span.to.0 to) span ≡ false
  outside_not f = both (nat_lt (length (cache_shown f span.from.0 from).pages) (span.from_page.0 + span.pages)) (nat_lt (length (cache_shown f span.to.0 to).pages) (span.to_page.0 + span.pages))
      (inside (length (cache_shown f span.from.0 from).pages) (span.from_page.0 + span.pages) (omega (arith, source_long f, out.from_ends))) (inside (length (cache_shown f span.to.0 to).pages) (span.to_page.0 + span.pages) (omega (arith, destination_long f, out.to_ends)))

  copy_free : (f : PageForest) → copy_locked (machine_by (seen b s t) f) span ≡ false
  copy_free f = any_same (seen b s t) f k.locked.counted (replaced span) ∙ out.unlocked

  move_free : any_locked b (read_from span) ≡ false → (f : PageForest) → move_locked (machine_by (seen b s t) f) span ≡ false
  move_free still f = both (is_any_locked (machine_by (seen b s t) f) span.from span.from_page.0 span.pages) (copy_locked (machine_by (seen b s t) f) span) (any_same (seen b s t) f k.locked.counted (read_from span) ∙ still) (copy_free f)

  pub copied_row : (f : PageForest) (sg : Segments) → is_any_denied (machine_by (seen b s t) f) sg span ≡ false → copy_of (machine_by (seen b s t) f) span sg ≡ reply replies.Done (record (machine_by (seen b s t) f) { caches = next f })
  copied_row f sg free = copy_row (machine_by (seen b s t) f) span sg (cache_shown f span.from.0 from) (cache_shown f span.to.0 to) (source_there f) (destination_there f) (outside_not f) out.apart (copy_free f) free

  -- a copy of the span
  pub copied_transfer : IsTransfer (seen b s t) span (commands.Copy span)
  copied_transfer = record {
    next = λ f. record (machine_by (seen b s t) f) { caches = next f };
    row = λ f g sg free. copied_row f sg free;
    shut = λ f g sg denied. copy_denied (machine_by (seen b s t) f) span sg (cache_shown f span.from.0 from) (cache_shown f span.to.0 to) (source_there f) (destination_there f) (outside_not f) out.apart (copy_free f) denied;
    saved = λ m. refl;
    access = λ m f sg page rises named first. (named, first);
    save = λ m f sg done rises named can. (named, can);
    memory = tt;
    reaches = λ rises. tt;
    touched = λ m. omega arith;
    quiet = λ m h answer. tt;
  }

  part_long : (f : PageForest) → length (take span.pages (drop span.from_page.0 (cache_shown f span.from.0 from).pages)) ≡ span.pages
  part_long f = length-take-le span.pages (drop span.from_page.0 (cache_shown f span.from.0 from).pages) (omega (arith, source_long f, out.from_ends, length-drop span.from_page.0 (cache_shown f span.from.0 from).pages))

  put_long : (f : PageForest) → length (put f).pages ≡ length to.pages
  put_long f = length-overwrite span.to_page.0 (take span.pages (drop span.from_page.0 (cache_shown f span.from.0 from).pages)) (cache_shown f span.to.0 to).pages (omega (arith, part_long f, destination_long f, out.to_ends)) ∙ length-pages f span.to.0 0 (length to.pages)

  shapes : (f : PageForest) (j : ℕ) → IsShaped (get_or (next f) j None) (get_or b.caches j None)
  shapes f j = put_shaped (caches_shown f 1 b.caches) b.caches (shown_shaped f 1 b.caches) (span.to.0 - 1) (Some (put f)) (subst (λ (o : Option Table). IsShaped (Some (put f)) o) (sym (table_place b.caches span.to.0 to to_is)) (refl, put_long f)) j

  many : (f : PageForest) → length (next f) ≡ length b.caches
  many f = length-set (caches_shown f 1 b.caches) (span.to.0 - 1) (Some (put f)) ∙ shown_made f 1 b.caches

  module _ (d : Arena) (u : Store) (same : SameCaches b d) (back : ForAnyMapper s b u d GivesBack) (tied : IsStoreTied s b) (whole : IsWhole d) (h : Option Held) (v : IsValid (seen b s t) h) (right : StaysRight s b u d) (rule : ForAnyMapper s b u d (λ old new. store_forest new ≡ copy false (span_pairs span) (store_forest old))) where
    forest_now : forest_of (seen d u t) h ≡ copy false (span_pairs span) (forest_of (seen b s t) h)
    forest_now = rule h None (tied_of (world h None b s) v.right)

    now : IsFollowed (record (machine_of (seen b s t) h) { caches = next (forest_of (seen b s t) h) }) (forest_of (seen d u t) h)
    now = subst (IsFollowed (record (machine_of (seen b s t) h) { caches = next (forest_of (seen b s t) h) })) (sym forest_now)
        (copied_followed (machine_of (seen b s t) h) (forest_of (seen b s t) h) span (cache_shown (forest_of (seen b s t) h) span.from.0 from) (cache_shown (forest_of (seen b s t) h) span.to.0 to) (followed_of (seen b s t) h k.nodes k.actors.some v.whole) (allowed (forest_of (seen b s t) h)) false)

    pub machine_copied : machine_of (seen d u t) h ≡ record (machine_of (seen b s t) h) { caches = next (forest_of (seen b s t) h) }
    machine_copied = machine_is b d s u t live k same back tied whole h (next (forest_of (seen b s t) h)) (many (forest_of (seen b s t) h)) (shapes (forest_of (seen b s t) h)) now

    -- with the saves that were done before
    pub copy_follows : (named : Bool) (f : PageForest) → forest_of (seen b s t) h ≡ saved named (extent_names (replaced span)) f → forest_of (seen d u t) h ≡ copy named (span_pairs span) f
    copy_follows named f before = forest_now ∙ ap (copy false (span_pairs span)) (before ∙ ap (λ xs. saved named xs f) (sym (destination_names span)))

    pub copied_valid : IsValid (seen d u t) h
    copied_valid = record {
      right = right h None v.right;
      sized = sized_same b d h same.segments same.sizes v.sized;
      full = full_same b d t.page_bytes h same.segments v.full;
      whole = subst (λ (m : Machine). IfSome h (λ _. HasWholePages m)) (sym machine_copied) (go h v.whole);
    }
      where
        go : (g : Option Held) → IfSome g (λ _. HasWholePages (machine_of (seen b s t) h)) → IfSome g (λ _. HasWholePages (record (machine_of (seen b s t) h) { caches = next (forest_of (seen b s t) h) }))
        go None w = tt
        go (Some g) w =
            let P : Page → Type 0 = λ (y : Page). length y ≡ t.page_bytes in
            let f = forest_of (seen b s t) h in
            let sp : All P (cache_shown f span.from.0 from).pages = numbered-all (outcome.IsWhole t.page_bytes) (caches_shown f 1 b.caches) span.from.0 (cache_shown f span.from.0 from) (source_there f) w in
            let dp : All P (cache_shown f span.to.0 to).pages = numbered-all (outcome.IsWhole t.page_bytes) (caches_shown f 1 b.caches) span.to.0 (cache_shown f span.to.0 to) (destination_there f) w in
            All-set (outcome.IsWhole t.page_bytes) (caches_shown f 1 b.caches) (span.to.0 - 1) (Some (put f))
            (all_overwrite P span.to_page.0 (take span.pages (drop span.from_page.0 (cache_shown f span.from.0 from).pages)) (cache_shown f span.to.0 to).pages (All-take P span.pages (drop span.from_page.0 (cache_shown f span.from.0 from).pages) (All-drop P span.from_page.0 (cache_shown f span.from.0 from).pages sp)) dp) w

    pub copied_outcome : (F : PageForest) (rises : MapperCounts) → ((sg : Segments) → segments_of h ≡ Some sg → is_any_denied (machine_of (seen b s t) h) sg span ≡ false)
        → OutcomeAt (segments_of h) (machine_of (seen b s t) h) (Some F) (commands.Copy span) (Ok replies.Done) (machine_of (seen d u t) h) rises
    copied_outcome F rises free = go h refl
      where
        go : (g : Option Held) → h ≡ g → OutcomeAt (segments_of g) (machine_of (seen b s t) h) (Some F) (commands.Copy span) (Ok replies.Done) (machine_of (seen d u t) h) rises
        go (Some g) e = copied_row (forest_of (seen b s t) h) (segments_in g) (free (segments_in g) (ap segments_of e)) ∙ ap (λ (m : Machine). reply replies.Done m) (sym machine_copied)
        go None e = record {
          whole = machine_by (seen b s t) (zeroed (seen b s t) h);
          whole_next = record (machine_by (seen b s t) (zeroed (seen b s t) h)) { caches = next (zeroed (seen b s t) h) };
          segments = no_segments;
          whole_answer = Ok replies.Done;
          is = ap (machine_of (seen b s t)) e ∙ blank_of (seen b s t) (zeroed (seen b s t) h) k.nodes;
          is_next = blank_is b d s u t live k same back tied whole h (next (zeroed (seen b s t) h)) (many (zeroed (seen b s t) h)) (shapes (zeroed (seen b s t) h)) (zeroed (seen b s t) h) e;
          pages = zeroed_whole (seen b s t) h k.nodes;
          alike = refl;
          outcome = copied_row (zeroed (seen b s t) h) no_segments (undenied_any (seen b s t) (zeroed (seen b s t) h) span);
        }

  -- A move

  pub copied_there : (f : PageForest) → (c : Cache) × (cache_of (record (machine_by (seen b s t) f) { caches = next f }) span.from.0 ≡ Some c) × (length c.pages ≡ out.from)
  copied_there f = elim (numbered-set (caches_shown f 1 b.caches) span.to.0 span.from.0 (cache_shown f span.to.0 to) (put f) (cache_shown f span.from.0 from) (destination_there f) (source_there f)) [
    | inl e ↦ (cache_shown f span.from.0 from, e, source_long f)
    | inr e ↦ (put f, e.1, put_long f ∙ sym (length-pages f span.to.0 0 (length to.pages)) ∙ sym (ap (λ (c : Cache). length c.pages) e.0) ∙ source_long f)
  ]

  abbrev left : PageForest → Page → Cache
  left f z = put_pages span.from_page.0 (replicate span.pages z) (copied_there f).0

  abbrev moved : PageForest → Page → List (Option Cache)
  moved f z = set (next f) (span.from.0 - 1) (Some (put_pages span.from_page.0 (replicate span.pages z) (copied_there f).0))

  unnamed_source : is_named b span.from.0 ≡ false → (f : PageForest) → is_some (cache_shown f span.from.0 from).segment ≡ false
  unnamed_source temp f = is_shown from.segment ∙ sym (ap (λ (o : Option Table). is_some (option_and_then (λ (t : Table). t.segment) o)) from_is) ∙ temp

  pub moved_row : is_named b span.from.0 ≡ false → any_locked b (read_from span) ≡ false → (f : PageForest) (sg : Segments) → is_any_denied (machine_by (seen b s t) f) sg span ≡ false → move_of (machine_by (seen b s t) f) span sg ≡ reply replies.Done (record (machine_by (seen b s t) f) { caches = moved f (replicate t.page_bytes 0) })
  moved_row temp still f sg free = move_row (machine_by (seen b s t) f) span sg (cache_shown f span.from.0 from) (cache_shown f span.to.0 to) (source_there f) (destination_there f) (outside_not f) out.apart (move_free still f) (unnamed_source temp f) free
      ∙ ap (λ (o : Option Cache). reply replies.Done (option_map_or (λ (c : Cache). put_cache (record (machine_by (seen b s t) f) { caches = next f }) span.from.0 (put_pages span.from_page.0 (replicate span.pages (replicate t.page_bytes 0)) c)) o (record (machine_by (seen b s t) f) { caches = next f }))) (copied_there f).1

  -- a move of the span
  pub moved_transfer : is_named b span.from.0 ≡ false → any_locked b (read_from span) ≡ false → IsTransfer (seen b s t) span (commands.Move span)
  moved_transfer temp still = record {
    next = λ f. record (machine_by (seen b s t) f) { caches = moved f (replicate t.page_bytes 0) };
    row = λ f g sg free. moved_row temp still f sg free;
    shut = λ f g sg denied. move_denied (machine_by (seen b s t) f) span sg (cache_shown f span.from.0 from) (cache_shown f span.to.0 to) (source_there f) (destination_there f) (outside_not f) out.apart (move_free still f) (unnamed_source temp f) denied;
    saved = λ m. refl;
    access = λ m f sg page rises named first. (named, first);
    save = λ m f sg done rises named can. (named, can);
    memory = tt;
    reaches = λ rises. tt;
    touched = λ m. omega arith;
    quiet = λ m h answer. tt;
  }

  left_shape : (f : PageForest) → IsShaped (Some (copied_there f).0) (get_or b.caches (span.from.0 - 1) None)
  left_shape f = subst (λ (o : Option Cache). IsShaped o (get_or b.caches (span.from.0 - 1) None)) (get_or_from_slice_get (next f) (span.from.0 - 1) (Some (copied_there f).0) None (at_number (next f) span.from.0 (copied_there f).0 (copied_there f).1)) (shapes f (span.from.0 - 1))

  left_long : (f : PageForest) (z : Page) → length (left f z).pages ≡ length (copied_there f).0.pages
  left_long f z = length-overwrite span.from_page.0 (replicate span.pages z) (copied_there f).0.pages (omega (arith, length-replicate span.pages z, (copied_there f).2, out.from_ends))

  moved_shapes : (f : PageForest) (z : Page) (j : ℕ) → IsShaped (get_or (moved f z) j None) (get_or b.caches j None)
  moved_shapes f z j = put_shaped (next f) b.caches (shapes f) (span.from.0 - 1) (Some (left f z))
      (subst (λ (o : Option Table). IsShaped (Some (left f z)) o) (sym (table_place b.caches span.from.0 from from_is)) (let h = subst (λ (o : Option Table). IsShaped (Some (copied_there f).0) o) (table_place b.caches span.from.0 from from_is) (left_shape f) in (h.0, left_long f z ∙ h.1))) j

  moved_many : (f : PageForest) (z : Page) → length (moved f z) ≡ length b.caches
  moved_many f z = length-set (next f) (span.from.0 - 1) (Some (left f z)) ∙ many f

  module _ (d : Arena) (u : Store) (same : SameCaches b d) (back : ForAnyMapper s b u d GivesBack) (tied : IsStoreTied s b) (whole : IsWhole d) (h : Option Held) (v : IsValid (seen b s t) h) (right : StaysRight s b u d) (rule : ForAnyMapper s b u d (λ old new. store_forest new ≡ move_ false (zeros_told old) (span_pairs span) (store_forest old))) where
    abbrev g : PageForest
    g = forest_of (seen b s t) h

    abbrev z : Page
    z = zeros_for h t.page_bytes

    F : IsFollowed (machine_of (seen b s t) h) (forest_of (seen b s t) h)
    F = followed_of (seen b s t) h k.nodes k.actors.some v.whole

    blanks_are : zeros_told (world h None b s) ≡ told (zeros_for h t.page_bytes)
    blanks_are = ap (λ (n : ℕ). option_map (λ _. replicate n 0) h) (sym k.page) ∙ sym (told_zeros h t.page_bytes k.actors.some)

    forest_moved : forest_of (seen d u t) h ≡ move_ false (zeros_told (world h None b s)) (span_pairs span) (forest_of (seen b s t) h)
    forest_moved = rule h None (tied_of (world h None b s) v.right)

    same_left : (source_left (machine_of (seen b s t) h) g span (source g) (destination g) F (allowed g)).0 ≡ (copied_there g).0
    same_left = (let e : Some (source_left (machine_of (seen b s t) h) g span (source g) (destination g) F (allowed g)).0 ≡ Some (copied_there g).0 = sym (source_left (machine_of (seen b s t) h) g span (source g) (destination g) F (allowed g)).1 ∙ (copied_there g).1 in cc e)

    moved_is : set (next g) (span.from.0 - 1) (Some (put_pages span.from_page.0 (replicate span.pages z) (source_left (machine_of (seen b s t) h) g span (source g) (destination g) F (allowed g)).0)) ≡ moved g z
    moved_is = ap (λ (c : Cache). set (next g) (span.from.0 - 1) (Some (put_pages span.from_page.0 (replicate span.pages z) c))) same_left

    moved_now : IsFollowed (record (machine_of (seen b s t) h) { caches = moved g z }) (forest_of (seen d u t) h)
    moved_now = subst (λ cs. IsFollowed (record (machine_of (seen b s t) h) { caches = cs }) (forest_of (seen d u t) h)) moved_is
        (subst (IsFollowed (record (machine_of (seen b s t) h) { caches = set (next g) (span.from.0 - 1) (Some (put_pages span.from_page.0 (replicate span.pages z) (source_left (machine_of (seen b s t) h) g span (source g) (destination g) F (allowed g)).0)) })) (sym forest_moved)
        (moved_followed (machine_of (seen b s t) h) g span (source g) (destination g) F (allowed g) z false (zeros_told (world h None b s)) blanks_are))

    pub machine_moved : machine_of (seen d u t) h ≡ record (machine_of (seen b s t) h) { caches = moved g z }
    machine_moved = machine_is b d s u t live k same back tied whole h (moved g z) (moved_many g z) (moved_shapes g z) moved_now

    left_zero : 1 ≤ span.pages → page_in (machine_of (seen d u t) h) span.from.0 span.from_page.0 ≡ Some z
    left_zero some = ap (λ (m : Machine). page_in m span.from.0 span.from_page.0) machine_moved
        ∙ ap (λ cs. page_in (record (machine_of (seen b s t) h) { caches = cs }) span.from.0 span.from_page.0) (sym moved_is)
        ∙ zero_left (machine_of (seen b s t) h) g span (source g) (destination g) F (allowed g) z span.from_page.0 (omega arith) (omega (arith, some))

    -- with the saves that were done before
    pub move_follows : 1 ≤ span.pages → (named : Bool) (f : PageForest) → forest_of (seen b s t) h ≡ saved named (extent_names (replaced span)) f
        → forest_of (seen d u t) h ≡ move_ named (told (unwrap_or (page_in (machine_of (seen d u t) h) span.from.0 span.from_page.0) [])) (span_pairs span) f
    move_follows some named f before = forest_moved ∙ ap (move_ false (zeros_told (world h None b s)) (span_pairs span)) (before ∙ ap (λ xs. saved named xs f) (sym (destination_names span)))
        ∙ ap (λ (y : Option Page). move_ named y (span_pairs span) f) (blanks_are ∙ ap (λ (o : Option Page). told (unwrap_or o [])) (sym (left_zero some)))

    pub moved_valid : IsValid (seen d u t) h
    moved_valid = record {
      right = right h None v.right;
      sized = sized_same b d h same.segments same.sizes v.sized;
      full = full_same b d t.page_bytes h same.segments v.full;
      whole = subst (λ (m : Machine). IfSome h (λ _. HasWholePages m)) (sym machine_moved) (go h refl v.whole);
    }
      where
        go : (o : Option Held) → h ≡ o → IfSome o (λ _. HasWholePages (machine_of (seen b s t) h)) → IfSome o (λ _. HasWholePages (record (machine_of (seen b s t) h) { caches = moved g z }))
        go None e w = tt
        go (Some o) e w =
            let P : Page → Type 0 = λ (y : Page). length y ≡ t.page_bytes in
            let sp : All P (source g).pages = numbered-all (outcome.IsWhole t.page_bytes) (caches_shown g 1 b.caches) span.from.0 (source g) (source_there g) w in
            let dp : All P (destination g).pages = numbered-all (outcome.IsWhole t.page_bytes) (caches_shown g 1 b.caches) span.to.0 (destination g) (destination_there g) w in
            let all : All (outcome.IsWhole t.page_bytes) (next g) = All-set (outcome.IsWhole t.page_bytes) (caches_shown g 1 b.caches) (span.to.0 - 1) (Some (put g))
            (all_overwrite P span.to_page.0 (take span.pages (drop span.from_page.0 (source g).pages)) (destination g).pages (All-take P span.pages (drop span.from_page.0 (source g).pages) (All-drop P span.from_page.0 (source g).pages sp)) dp) w in
            let lp : All P (copied_there g).0.pages = numbered-all (outcome.IsWhole t.page_bytes) (next g) span.from.0 (copied_there g).0 (copied_there g).1 all in
            All-set (outcome.IsWhole t.page_bytes) (next g) (span.from.0 - 1) (Some (left g z))
            (all_overwrite P span.from_page.0 (replicate span.pages z) (copied_there g).0.pages (All-replicate P span.pages z (ap (λ k. length (zeros_for k t.page_bytes)) e ∙ length-replicate t.page_bytes 0)) lp) all

    pub moved_outcome : is_named b span.from.0 ≡ false → any_locked b (read_from span) ≡ false → (F : PageForest) (rises : MapperCounts) → ((sg : Segments) → segments_of h ≡ Some sg → is_any_denied (machine_of (seen b s t) h) sg span ≡ false)
        → OutcomeAt (segments_of h) (machine_of (seen b s t) h) (Some F) (commands.Move span) (Ok replies.Done) (machine_of (seen d u t) h) rises
    moved_outcome temp still F rises free = go h refl
      where
        go : (o : Option Held) → h ≡ o → OutcomeAt (segments_of o) (machine_of (seen b s t) h) (Some F) (commands.Move span) (Ok replies.Done) (machine_of (seen d u t) h) rises
        go (Some o) e = moved_row temp still g (segments_in o) (free (segments_in o) (ap segments_of e)) ∙ ap (λ (m : Machine). reply replies.Done m) (ap (λ k. record (machine_of (seen b s t) h) { caches = moved g (zeros_for k t.page_bytes) }) (sym e) ∙ sym machine_moved)
        go None e = record {
          whole = machine_by (seen b s t) (zeroed (seen b s t) h);
          whole_next = record (machine_by (seen b s t) (zeroed (seen b s t) h)) { caches = moved (zeroed (seen b s t) h) (replicate t.page_bytes 0) };
          segments = no_segments;
          whole_answer = Ok replies.Done;
          is = ap (machine_of (seen b s t)) e ∙ blank_of (seen b s t) (zeroed (seen b s t) h) k.nodes;
          is_next = blank_is b d s u t live k same back tied whole h (moved (zeroed (seen b s t) h) (replicate t.page_bytes 0)) (moved_many (zeroed (seen b s t) h) (replicate t.page_bytes 0)) (moved_shapes (zeroed (seen b s t) h) (replicate t.page_bytes 0)) (zeroed (seen b s t) h) e;
          pages = zeroed_whole (seen b s t) h k.nodes;
          alike = refl;
          outcome = moved_row temp still (zeroed (seen b s t) h) no_segments (undenied_any (seen b s t) (zeroed (seen b s t) h) span);
        }
