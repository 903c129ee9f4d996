-- Pages were taken from their segment: the manager after it.
use Rattle.std.proofs.Common.{◌≡◌, ℕ, ◌+◌, ◌-◌, ◌*◌, ◌<◌, ◌≤◌, Bool, true, false, List, [], length, get_or, set, map, take, drop, Option, Some, None, refl, sym, ap, ◌∙◌, subst, arith}
use Rattle.std.specs.Prelude.{IfSome, Ok, is_some, option_and_then, option_map}
use Rattle.std.specs.FinMap.{get, get-empty}
use Rattle.std.specs.Ordering.{nat_cmp}
use Rattle.std.specs.List.{All}
use Rattle.std.proofs.lemmas.List.{length-set}
use Rattle.std.proofs.lemmas.List.Elements.{All-append, All-drop, All-set, All-take}
use Rattle.vm_ids.specs.Counting.{MapperCounts}
use Rattle.vm_ids.specs.Held.{Held, segment_page, segments_in, segments_of}
use Rattle.vm_ids.specs.declared.command.Command.TheVariants as commands
use Rattle.vm_ids.specs.declared.command.Extent.{Extent}
use Rattle.vm_ids.specs.declared.reply.Reply.TheVariants as replies
use Rattle.vm_ids.specs.Forest.Commands.{extent_names, firsts, invalidate, replace_pages}
use Rattle.vm_ids.specs.Forest.Saving.{saved}
use Rattle.vm_ids.specs.Forest.Settling.{settle}
use Rattle.local_cache.specs.Arena.{Arena, Table, table_of}
use Rattle.local_cache.specs.Whole.{IsWhole, SameCaches}
use Rattle.residency.specs.declared.store.Store.{Store}
use Rattle.residency.specs.StoreForest.{store_forest}
use Rattle.residency.specs.World.{world}
use Rattle.page_commands.specs.Readings.{held_pages, new_pages}
use Rattle.page_commands.specs.Steps.{ForAnyMapper, GivesBack, IsStoreTied, StaysRight}
use Rattle.vm_model.specs.Answering.{held_for, held_part, invalidate_of, is_any_locked, overwrite, put_pages, reply}
use Rattle.vm_model.specs.Following.{forest_after}
use Rattle.vm_model.specs.Machine.{Cache, Machine, Page, cache_of}
use Rattle.vm_model.specs.Outcome as outcome
use Rattle.vm_model.specs.Outcome.{HasWholePages, OutcomeAt, blank}
use Rattle.vm_model.specs.PageForest.{PageForest, nodes_in}
use Rattle.vm_model.specs.Laws.{IsFollowed}
use Rattle.vm_model.specs.Run.{CallIs}
use Rattle.vm_model.proofs.Forests.Following.{invalidated_followed, invalidated_there}
use Rattle.vm_model.proofs.Parts.ListParts.{overwrite_in}
use Rattle.vm_model.proofs.Parts.Lists.{length-overwrite}
use Rattle.vm_model.specs.Synchronised.{ArePushed}
use Rattle.vm_model.proofs.Machines.Sound.{numbered-all}
use Rattle.contexts.specs.Actors.{Actors}
use Rattle.pvm_core.specs.Manager.{IsManagerSound, IsValid, Manager, cache_shown, caches_shown, forest_of, machine_by, machine_of, state_at}
use Rattle.pvm_core.specs.Reaching.{Reach}
use Rattle.pvm_core.specs.Saving.{KeepsMachine, is_named}
use Rattle.pvm_core.proofs.Answering.Answered.{call_is, no_segments}
use Rattle.pvm_core.proofs.Answering.Changed.{blank_is, machine_is, put_shaped}
use Rattle.pvm_core.proofs.Meaning.Determined.{IsShaped}
use Rattle.pvm_core.proofs.Extents.Part.{part_for, part_get, part_many, part_nodes, part_of_overwrite, part_whole, with_firsts}
use Rattle.pvm_core.proofs.Extents.Rows.{IsExtent, cache_there, extent_by, invalidate_row}
use Rattle.pvm_core.proofs.Homes.Full.{full_same}
use Rattle.pvm_core.proofs.Answering.Kept.{seen}
use Rattle.pvm_core.proofs.Homes.Named.{machine_segment}
use Rattle.pvm_core.proofs.Answering.Reaching.{reach_told}
use Rattle.pvm_core.proofs.Meaning.Same.{shown_shaped}
use Rattle.pvm_core.proofs.Meaning.Shown.{length-pages, shown_made}
use Rattle.pvm_core.proofs.Homes.Sized.{sized_same}
use Rattle.pvm_core.specs.Locks.{any_locked}
use Rattle.pvm_core.proofs.Holding.Counted.{any_same}
use Rattle.vm_ids.specs.declared.node_name.NodeName.{NodeName}
use Rattle.vm_ids.specs.Forest.NameLists.{◌∈◌}
use Rattle.vm_ids.specs.Forest.Saving.{is_unsaved}
use Rattle.vm_ids.proofs.Forest.Saving.{save_range_ends}
use Rattle.local_cache.specs.Reading as arena
use Rattle.segment_ops.proofs.Unsaved.{unsaved_by}
use Rattle.pvm_core.proofs.Readiness.Copies.{extent_count, extent_live, forest_copies, saved_most}
use Rattle.pvm_core.proofs.Meaning.Values.{consistent_of, blank_of, followed_of, zeroed, zeroed_whole}
use Rattle.page_commands.proofs.TiedStores.Tied.{tied_of}

all_overwrite : {A : Type 0} (P : A → Type 0) (at : ℕ) (part whole : List A) → All P part → All P whole → All P (overwrite at part whole)
all_overwrite P at part whole new old = All-append P _ (drop (at + length part) whole) (All-append P (take at whole) part (All-take P at whole old) new) (All-drop P (at + length part) whole old)

table_place : (ts : List (Option Table)) (n : ℕ) (t : Table) → Rattle.local_cache.specs.Arena.table_at ts n ≡ Some t → get_or ts (n - 1) None ≡ Some t
table_place ts Rattle.std.proofs.Common.zero t e = absurd (cc e)
table_place ts (Rattle.std.proofs.Common.suc k) t e = ap (λ (i : ℕ). get_or ts i None) (let z : Rattle.std.proofs.Common.suc k - 1 ≡ k = omega arith in z) ∙ e

-- What led to where pages can be taken from their segment: memory was taken, and the saves are
-- done.
pub record IsTaking (p : Manager) (h g : Option Held) (b : Arena) (s : Store) (t : Actors) (e : Extent) (c d : MapperCounts) : Type 0 where
  pub extent : IsExtent b e
  pub valid : IsValid (seen b s t) g
  pub machine : machine_of (seen b s t) g ≡ machine_of p h
  pub by : (f : PageForest) → machine_by (seen b s t) f ≡ machine_by p f
  pub forest : forest_of (seen b s t) g ≡ saved true (extent_names e) (forest_of p h)
  pub reach : Reach (machine_of p h) h g c d
  pub made : b.made ≡ p.caches.made

named_true : (a : Arena) (e : Extent) → IsExtent a e → is_named a e.cache.0 ≡ true
named_true a e x = ap (λ (o : Option Table). is_some (option_and_then (λ (t : Table). t.segment) o)) x.there ∙ ap (λ o. is_some o) x.of

pub taking : (p r : Manager) (h g : Option Held) (c d : MapperCounts) (b : Arena) (s : Store) (t : Actors) (e : Extent) → IsExtent p.caches e → r.caches.caches ≡ p.caches.caches → r.caches.made ≡ p.caches.made → machine_of r h ≡ machine_of p h → ((f : PageForest) → machine_by r f ≡ machine_by p f) → forest_of r h ≡ forest_of p h
    → IsValid (seen b s t) g → KeepsMachine r (seen b s t) h g c d → b.caches ≡ r.caches.caches → forest_of (seen b s t) g ≡ saved (is_named r.caches e.cache.0) (extent_names e) (forest_of r h) → IsTaking p h g b s t e c d
taking p r h g c d b s t e x tables made machine by forest valid keeps still done = record {
  extent = extent_by p.caches b e (still ∙ tables) x;
  valid = valid;
  machine = keeps.machine ∙ machine;
  by = λ f. keeps.by f ∙ by f;
  forest = done ∙ (λ j. saved (named_true r.caches e (extent_by p.caches r.caches e tables x) j) (extent_names e) (forest j));
  reach = subst (λ (m : Machine). Reach m h g c d) machine keeps.reach;
  made = keeps.made ∙ made;
}

module _ (p : Manager) (h g : Option Held) (b : Arena) (s : Store) (t : Actors) (e : Extent) (c d : MapperCounts) (nodes : IsWhole p.caches) (ready : IsTaking p h g b s t e c d) where
  -- no page of the range has an own page that an heir reads
  pub taking_saved : IsWhole b → (x : NodeName) → x ∈ extent_names e → is_unsaved (arena.forest_of b) x ≡ false
  taking_saved whole x i = sym (unsaved_by (world g None b s) whole.sound x) ∙ ap (λ f. is_unsaved f x) ready.forest ∙ save_range_ends (extent_names e) (forest_of p h) (consistent_of p h nodes).shaped x i

  -- so many pages were copied
  pub taking_copies : b.copies ≤ p.caches.copies + e.pages
  taking_copies =
      let most = saved_most true (extent_names e) (forest_of p h) (consistent_of p h nodes).shaped (extent_live e) in
      omega (arith, most, extent_count e, ap (λ f. f.copies) ready.forest, forest_copies p h, forest_copies (seen b s t) g)

  -- as many as the saves of the range copy
  pub taking_copied : IsExtent p.caches e → b.copies ≡ (saved (is_named p.caches e.cache.0) (extent_names e) (forest_of p h)).copies
  taking_copied x = sym (forest_copies (seen b s t) g) ∙ ap (λ f. f.copies) ready.forest ∙ (λ j. (saved (sym (named_true p.caches e x) j) (extent_names e) (forest_of p h)).copies)

-- From p, over what the mapper held then, pages were saved, which led to the caches b and the store
-- s and to what the mapper holds now; and then those of the range were taken from their segment.
module _ (p : Manager) (h g : Option Held) (b d : Arena) (s u : Store) (t : Actors) (live : ℕ) (k : IsManagerSound b s t live) (v : IsValid (seen b s t) g) (e : Extent) (x : IsExtent b e) (unlocked : any_locked b e ≡ false)
    (machine : machine_of (seen b s t) g ≡ machine_of p h) (by : (f : PageForest) → machine_by (seen b s t) f ≡ machine_by p f) (nodes : IsWhole p.caches) (old : IsValid p h) (saves_done : forest_of (seen b s t) g ≡ saved true (extent_names e) (forest_of p h))
    (same : SameCaches b d) (back : ForAnyMapper s b u d GivesBack) (tied : IsStoreTied s b) (whole : IsWhole d) (right : StaysRight s b u d)
    (rule : ForAnyMapper s b u d (λ old new. store_forest new ≡ settle (replace_pages (held_pages (new_pages old) (extent_names e)) (store_forest old)))) where
  lock : (f : PageForest) → is_any_locked (machine_by (seen b s t) f) e.cache e.first.0 e.pages ≡ false
  lock f = any_same (seen b s t) f k.locked.counted e ∙ unlocked

  abbrev c : PageForest → Cache
  c f = cache_shown f e.cache.0 x.table

  abbrev put : PageForest → List Page → Cache
  put f ps = put_pages e.first.0 ps (cache_shown f e.cache.0 x.table)

  abbrev next : PageForest → List Page → List (Option Cache)
  next f ps = set (caches_shown f 1 b.caches) (e.cache.0 - 1) (Some (put_pages e.first.0 ps (cache_shown f e.cache.0 x.table)))

  there : (f : PageForest) → cache_of (machine_by (seen b s t) f) e.cache.0 ≡ Some (cache_shown f e.cache.0 x.table)
  there f = cache_there (seen b s t) f e x

  long : (f : PageForest) → length (cache_shown f e.cache.0 x.table).pages ≡ length x.table.pages
  long f = length-pages f e.cache.0 0 (length x.table.pages)

  put_long : (f : PageForest) (ps : List Page) → length ps ≡ e.pages → length (put f ps).pages ≡ length x.table.pages
  put_long f ps count = length-overwrite e.first.0 ps (cache_shown f e.cache.0 x.table).pages (omega (arith, count, long f, x.ends)) ∙ long f

  shapes : (f : PageForest) (ps : List Page) → length ps ≡ e.pages → (j : ℕ) → IsShaped (get_or (next f ps) j None) (get_or b.caches j None)
  shapes f ps count j = put_shaped (caches_shown f 1 b.caches) b.caches (shown_shaped f 1 b.caches) (e.cache.0 - 1) (Some (put f ps)) (subst (λ (o : Option Table). IsShaped (Some (put f ps)) o) (sym (table_place b.caches e.cache.0 x.table x.there)) (refl, put_long f ps count)) j

  many : (f : PageForest) (ps : List Page) → length (next f ps) ≡ length b.caches
  many f ps = length-set (caches_shown f 1 b.caches) (e.cache.0 - 1) (Some (put f ps)) ∙ shown_made f 1 b.caches

  -- Here f is the forest before the saves.
  abbrev f : PageForest
  f = forest_of p h

  size : t.page_bytes ≡ p.page_bytes
  size = ap (λ (m : Machine). m.page_bytes) (by (forest_of p h))

  some : 1 ≤ p.page_bytes
  some = omega (arith, size, k.actors.some)

  -- the machine that p stands for
  abbrev m : Machine
  m = machine_by (seen b s t) (forest_of p h)

  followed : IsFollowed m (forest_of p h)
  followed = subst (λ (n : Machine). IsFollowed n (forest_of p h)) (sym (by (forest_of p h))) (followed_of p h nodes some old.whole)

  ends : e.first.0 + e.pages ≤ length (cache_shown (forest_of p h) e.cache.0 x.table).pages
  ends = omega (arith, long (forest_of p h), x.ends)

  count : length (part_for g x.segment e) ≡ e.pages
  count = part_many g x.segment e

  nodes_are : held_pages (new_pages (world g None b s)) (extent_names e) ≡ nodes_in e (Some (put (forest_of p h) (part_for g x.segment e)))
  nodes_are = part_nodes b s g e x t.page_bytes k.actors.some v.sized v.full
      ∙ ap (λ ps. Rattle.vm_ids.specs.Forest.Commands.pages_at e.cache e.first.0 (map Rattle.vm_model.specs.PageForest.told ps)) (sym (
      ap (λ (n : ℕ). take n (drop e.first.0 (overwrite e.first.0 (part_for g x.segment e) (cache_shown (forest_of p h) e.cache.0 x.table).pages))) (sym count)
      ∙ part_of_overwrite e.first.0 (part_for g x.segment e) (cache_shown (forest_of p h) e.cache.0 x.table).pages (omega (arith, ends))))

  names : extent_names e ≡ firsts (nodes_in e (Some (put (forest_of p h) (part_for g x.segment e))))
  names = sym (with_firsts (Rattle.page_commands.specs.Homes.named_page (world g None b s)) (extent_names e)) ∙ ap firsts nodes_are

  forest_now : forest_of (seen d u t) g ≡ invalidate (nodes_in e (Some (put (forest_of p h) (part_for g x.segment e)))) (forest_of p h)
  forest_now = rule g None (tied_of (world g None b s) v.right)
      ∙ (λ j. settle (replace_pages (nodes_are j) (saves_done j)))
      ∙ ap (λ xs. settle (replace_pages (nodes_in e (Some (put (forest_of p h) (part_for g x.segment e)))) (saved true xs (forest_of p h)))) names

  now : IsFollowed (record m { caches = next (forest_of p h) (part_for g x.segment e) }) (forest_of (seen d u t) g)
  now = subst (IsFollowed (record m { caches = next (forest_of p h) (part_for g x.segment e) })) (sym forest_now)
      (invalidated_followed m (forest_of p h) followed e (cache_shown (forest_of p h) e.cache.0 x.table) (part_for g x.segment e) (there (forest_of p h)) ends count)

  -- the machine that p stands for, as the caches b show it
  shown_is : machine_of (seen b s t) g ≡ m
  shown_is = machine ∙ sym (by (forest_of p h))

  pub machine_taken : machine_of (seen d u t) g ≡ record m { caches = next (forest_of p h) (part_for g x.segment e) }
  machine_taken = machine_is b d s u t live k same back tied whole g (next (forest_of p h) (part_for g x.segment e)) (many (forest_of p h) (part_for g x.segment e)) (shapes (forest_of p h) (part_for g x.segment e) count)
      (subst (λ (n : Machine). IsFollowed (record n { caches = next (forest_of p h) (part_for g x.segment e) }) (forest_of (seen d u t) g)) (sym shown_is) now)
      ∙ ap (λ (n : Machine). record n { caches = next (forest_of p h) (part_for g x.segment e) }) shown_is

  pub taken_follows : forest_of (seen d u t) g ≡ forest_after (forest_of p h) (machine_of p h) (commands.Invalidate e) (Ok replies.Done) (machine_of (seen d u t) g)
  taken_follows = forest_now ∙ ap (λ o. invalidate (nodes_in e o) (forest_of p h)) (sym (
      ap (λ (n : Machine). cache_of n e.cache.0) machine_taken
      ∙ invalidated_there m (forest_of p h) followed e (cache_shown (forest_of p h) e.cache.0 x.table) (part_for g x.segment e) (there (forest_of p h)) ends count))

  pub taken_valid : IsValid (seen d u t) g
  taken_valid = record {
    right = right g None v.right;
    sized = sized_same b d g same.segments same.sizes v.sized;
    full = full_same b d t.page_bytes g same.segments v.full;
    whole = subst (λ (n : Machine). IfSome g (λ _. HasWholePages n)) (sym machine_taken) (go g (part_whole b s g e x t.page_bytes k.actors.some v.sized v.full) (subst (λ (n : Machine). IfSome g (λ _. HasWholePages n)) shown_is v.whole));
  }
    where
      go : (o : Option Held) → IfSome o (λ _. All (λ (q : Page). length q ≡ t.page_bytes) (part_for g x.segment e)) → IfSome o (λ _. HasWholePages m) → IfSome o (λ _. HasWholePages (record m { caches = next (forest_of p h) (part_for g x.segment e) }))
      go None new was = tt
      go (Some z) new was =
          let P : Page → Type 0 = λ (y : Page). length y ≡ t.page_bytes in
          let cp : All P (cache_shown (forest_of p h) e.cache.0 x.table).pages = numbered-all (outcome.IsWhole t.page_bytes) (caches_shown (forest_of p h) 1 b.caches) e.cache.0 (cache_shown (forest_of p h) e.cache.0 x.table) (there (forest_of p h)) was in
          All-set (outcome.IsWhole t.page_bytes) (caches_shown (forest_of p h) 1 b.caches) (e.cache.0 - 1) (Some (put (forest_of p h) (part_for g x.segment e)))
          (all_overwrite P e.first.0 (part_for g x.segment e) (cache_shown (forest_of p h) e.cache.0 x.table).pages new cp) was

  outcome_taken : (rises : MapperCounts) → is_some (segments_of g) ≡ is_some (segments_of h) → OutcomeAt (segments_of g) (machine_of p h) (Some (forest_of p h)) (commands.Invalidate e) (Ok replies.Done) (machine_of (seen d u t) g) rises
  outcome_taken rises still = go g refl h refl
    where
      row : (f : PageForest) (held : Option (List Page)) → invalidate_of (machine_by (seen b s t) f) e held ≡ reply replies.Done (record (machine_by (seen b s t) f) { caches = next f (held_part held e.first.0 e.pages) })
      row f held = invalidate_row (seen b s t) f e x (lock f) held

      told_row : (z : Held) → g ≡ Some z → invalidate_of (machine_of p h) e (held_for (machine_of p h) (segments_in z) e.cache.0) ≡ reply replies.Done (machine_of (seen d u t) g)
      told_row z is =
          ap (λ (n : Machine). invalidate_of n e (held_for n (segments_in z) e.cache.0)) (sym (by (forest_of p h)))
          ∙ ap (λ o. invalidate_of m e (option_and_then (get (segments_in z).pages) o)) (machine_segment (seen b s t) k.apart (forest_of p h) e.cache.0 x.table x.there x.segment x.of)
          ∙ row (forest_of p h) (get z.segments x.segment.0)
          ∙ ap (λ (o : Option Held). reply replies.Done (record m { caches = next (forest_of p h) (part_for o x.segment e) })) (sym is)
          ∙ ap (λ (n : Machine). reply replies.Done n) (sym machine_taken)

      go : (o : Option Held) → g ≡ o → (q : Option Held) → h ≡ q → OutcomeAt (segments_of o) (machine_of p h) (Some (forest_of p h)) (commands.Invalidate e) (Ok replies.Done) (machine_of (seen d u t) g) rises
      go (Some z) is q was = told_row z is
      go None is None was =
          let w : PageForest = zeroed p h in
          record {
            whole = machine_by p w;
            whole_next = record (machine_by (seen b s t) w) { caches = next w (held_part None e.first.0 e.pages) };
            segments = no_segments;
            whole_answer = Ok replies.Done;
            is = ap (machine_of p) was ∙ blank_of p w nodes;
            is_next = blank_is b d s u t live k same back tied whole g (next w (held_part None e.first.0 e.pages)) (many w (held_part None e.first.0 e.pages)) (shapes w (held_part None e.first.0 e.pages) (part_many None x.segment e)) w is;
            pages = zeroed_whole p h nodes;
            alike = refl;
            outcome = ap (λ (n : Machine). invalidate_of n e (held_for n no_segments e.cache.0)) (sym (by w))
                ∙ ap (λ o. invalidate_of (machine_by (seen b s t) w) e (option_and_then (get no_segments.pages) o)) (machine_segment (seen b s t) k.apart w e.cache.0 x.table x.there x.segment x.of)
                ∙ ap (invalidate_of (machine_by (seen b s t) w) e) (get-empty nat_cmp x.segment.0)
                ∙ row w None;
          }
      go None is (Some q) was = absurd (let both : false ≡ true = ap (λ (o : Option Held). is_some (segments_of o)) (sym is) ∙ still ∙ ap (λ (o : Option Held). is_some (segments_of o)) was in cc both)

  pub taken_is : (a z : MapperCounts) (reach : Reach (machine_of p h) h g a z) → CallIs a z (state_at p h) (commands.Invalidate e) (Ok replies.Done) (state_at (seen d u t) g)
  taken_is a z reach = call_is a z p (seen d u t) h g (commands.Invalidate e) (Ok replies.Done) reach taken_valid tt tt taken_follows (outcome_taken _ (reach_told (machine_of p h) h g a z reach))

  -- the pages of the range are then what the segment holds
  pub taken_pushed : ArePushed (machine_of (seen d u t) g) (segments_of g) e.cache.0 e.first.0 (e.first.0 + e.pages)
  taken_pushed = go g refl
    where
      at_cache : cache_of (machine_of (seen d u t) g) e.cache.0 ≡ Some (put (forest_of p h) (part_for g x.segment e))
      at_cache = ap (λ (n : Machine). cache_of n e.cache.0) machine_taken
          ∙ invalidated_there m (forest_of p h) followed e (cache_shown (forest_of p h) e.cache.0 x.table) (part_for g x.segment e) (there (forest_of p h)) ends count

      go : (o : Option Held) → g ≡ o → ArePushed (machine_of (seen d u t) g) (segments_of o) e.cache.0 e.first.0 (e.first.0 + e.pages)
      go None is = tt
      go (Some z) is = λ seg page named first low.
          let two : Some x.segment.0 ≡ Some seg = sym (ap (option_and_then (λ (c : Cache). c.segment)) at_cache ∙ ap (option_map (λ s. s.0)) x.of) ∙ named in
          let same : x.segment.0 ≡ seg = cc two in
          ap (λ (s : ℕ). segment_page (segments_in z) s page) (sym same)
          ∙ sym (part_get b s g e x t.page_bytes k.actors.some v.sized v.full z is page first low)
          ∙ sym (overwrite_in e.first.0 (part_for g x.segment e) (cache_shown (forest_of p h) e.cache.0 x.table).pages (page - e.first.0) page (omega (arith, ends)) (omega (arith, first, low, count)) (omega (arith, first)))
          ∙ sym (ap (option_and_then (λ (c : Cache). Rattle.std.specs.Prelude.slice_get c.pages page)) at_cache)
