-- The last process gets what an image has: its text, its data, and a stack.
use Rattle.std.proofs.Common.{◌≡◌, ℕ, ◌+◌, ◌*◌, ◌^◌, ◌≤◌, ◌<◌, Bool, true, false, cond, List, [], ◌∷◌, ◌++◌, length, set, take, drop, replicate, Option, Some, None, refl, sym, ap, subst, ◌∙◌, arith}
use Rattle.std.specs.Prelude.{Ok, Err, Result, option_map, slice_get}
use Rattle.std.proofs.lemmas.List.{length-append, length-drop, length-map, length-take-le}
use Rattle.vm_model.proofs.Parts.Lists.{get_set_same}
use Rattle.gmi_calls.proofs.Rising.{rise_none, rise_then}
use Rattle.interface_callers.proofs.Words.{GhostsOfGmi, GhostsOfMapper, Held, LIVE_PAGES, Machine, MapperCounts, Page, Rise, Trouble, cache_of, counts_sum, no_counts, numbered, segments_of}
use Rattle.interface_callers.proofs.Lists.{get_last}
use Rattle.mix_process.specs.Adding.{AreKept, IsAdded, IsMapped, IsUnmapped, MapsPart, MayAdd, MayMap, Source, fresh_page, most_of, own_budget, put_at, usage_to_map, with_more}
use Rattle.mix_process.specs.Inner.{spare_of}
use Rattle.mix_process.specs.Loaded.{IsLoaded, MayLoad, loaded, usage_to_load}
use Rattle.mix_process.specs.Outcome.{Usage, usage_of, usage_to_grow}
use Rattle.mix_process.specs.ProcessMachine as model
use Rattle.mix_process.specs.ProcessMachine.{ProcessMachine}
use Rattle.mix_process.specs.Seen.{area_seen, cache_pages, pages_in, part_seen, process_seen, processes_seen, same_area, sizes_in}
use Rattle.mix_process.specs.Tying.{CanCall, IsOwnPart, IsPart, none_spare}
use Rattle.mix_process.specs.Use.{IsLack, IsWithin, usage_sum}
use Rattle.mix_process.specs.declared.area.Area.{Area}
use Rattle.mix_process.specs.declared.area.Area.TheVariants.{Data, Stack, Text}
use Rattle.mix_process.specs.declared.mix.Image.{Image}
use Rattle.mix_process.specs.declared.mix.Mix.{Mix}
use Rattle.mix_process.specs.declared.process.Part.{Part}
use Rattle.mix_process.specs.declared.process.Process.{Process}
use Rattle.mix_process.proofs.Calling.CallAgain.{respared}
use Rattle.mix_process.proofs.Adding.FilledAndMapped.{cache_few}
use Rattle.mix_process.proofs.Starts.PartsInherited.{set_again, set_last}
use Rattle.mix_process.proofs.Ties.OneMorePart.{map_place}
use Rattle.mix_process.proofs.Reading.Looking.{pages-append}
use Rattle.mix_process.proofs.Adding.PartMapped.{spare_only}
use Rattle.mix_process.proofs.Reading.Seeing.{pages_there}
use Rattle.mix_process.proofs.Calling.Using.{lack_still}

-- Lists

put_twice : (s : ProcessMachine) (k : ℕ) (p q : model.Process) → put_at (put_at s k p) k q ≡ put_at s k q
put_twice s k p q = λ i. record s { processes = set_again s.processes k (Some p) (Some q) i }

one_more : (a : Area) (parts : List Part) (p : Part) (b : Bool) → same_area p.area a ≡ b → pages_in a (parts ++ p ∷ []) ≡ pages_in a parts + cond b p.pages 0
one_more a parts p b e =
    pages-append a parts (p ∷ [])
    ∙ ap (λ (c : Bool). pages_in a parts + (cond c p.pages 0 + 0)) e
    ∙ (let same : pages_in a parts + (cond b p.pages 0 + 0) ≡ pages_in a parts + cond b p.pages 0 = omega arith in same)

-- the process that was put last
last_is : (m : Machine) (front : List (Option Process)) (q : Process) (images : List Image) (s : ProcessMachine) (p : model.Process) → processes_seen m (front ++ Some q ∷ []) images ≡ put_at s (length front) p → length front < length s.processes → process_seen m q ≡ p
last_is m front q images s p e within =
    let both : Some (Some (process_seen m q)) ≡ Some (Some p) =
    sym (map_place (option_map (process_seen m)) (front ++ Some q ∷ []) (length front) (Some q) (get_last front (Some q)))
    ∙ ap (λ (x : ProcessMachine). slice_get x.processes (length front)) e
    ∙ get_set_same s.processes (length front) (Some p) within in
    cc both

-- How far it has come

-- Some parts were added to the last process, with so much more in use.
record IsSoFar {Manager X Chooser : Type 0} (M : GhostsOfMapper X) (G : GhostsOfGmi Manager X Chooser) (before : X) (old : Mix Manager) (front : List (Option Process)) (more : Usage) (budget : ℕ) (now : X) (mix : Mix Manager) (child : Process) : Type 0 where
  pub can : CanCall G mix (M.held now) (M.page_bytes now)
  pub table : mix.processes.items ≡ front ++ Some child ∷ []
  pub images : mix.images ≡ old.images
  pub kept : AreKept (G.machine old.gmi (M.held before)) (G.machine mix.gmi (M.held now))
  pub used : IsWithin (usage_of (G.machine mix.gmi (M.held now))) (usage_sum (usage_of (G.machine old.gmi (M.held before))) more)
  pub made : G.made mix.gmi ≤ G.made old.gmi + budget
  pub segments : segments_of (M.held now) ≡ segments_of (M.held before)
  pub rises : MapperCounts
  pub rose : Rise (M.counts before) (M.counts now) rises

module _ {Manager X Chooser : Type 0} (M : GhostsOfMapper X) (G : GhostsOfGmi Manager X Chooser) (before : X) (old : Mix Manager) (front : List (Option Process)) (more : Usage) (budget : ℕ) (now : X) (mix : Mix Manager) (child : Process) (f : IsSoFar M G before old front more budget now mix child)
    (area : Area) (pages : ℕ) (source : Option Source) where
  abbrev start_is : Machine
  start_is = G.machine old.gmi (M.held before)

  abbrev o : Machine
  o = G.machine mix.gmi (M.held now)

  -- a part more, or the attempt of it
  further : (result : Result (Unit {0}) Trouble) (after : X) (new : Mix Manager) → IsAdded M G now mix (length front) child area pages source result after new
      → (q : Process) → new.processes.items ≡ set mix.processes.items (length front) (Some q) → new.images ≡ mix.images
      → IsSoFar M G before old front (usage_sum more (usage_to_grow pages)) (budget + own_budget o source pages) after new q
  further result after new a q processes images = record {
    can = a.can;
    table = processes ∙ ap (λ (xs : List (Option Process)). set xs (length front) (Some q)) f.table ∙ set_last front (Some child) (Some q) (length front) refl;
    images = images ∙ f.images;
    kept = λ k c e. a.kept k c (f.kept k c e);
    used = record {
      living = omega (arith, a.used.living, f.used.living);
      actors = omega (arith, a.used.actors, f.used.actors);
      caches = omega (arith, a.used.caches, f.used.caches);
      regions = omega (arith, a.used.regions, f.used.regions);
      pages = omega (arith, a.used.pages, f.used.pages);
    };
    made = omega (arith, a.made, f.made);
    segments = a.segments ∙ f.segments;
    rises = counts_sum f.rises a.rises;
    rose = rise_then (M.counts before) (M.counts now) (M.counts after) f.rises a.rises f.rose a.rose;
  }

  lack_of : (t : Trouble) → IsLack (usage_of o) (usage_to_grow pages) t → IsLack (usage_of start_is) (usage_sum more (usage_to_grow pages)) t
  lack_of t l = lack_still (usage_of start_is) (usage_sum more (usage_to_grow pages)) (usage_of o) (usage_to_grow pages) (record {
    living = omega (arith, f.used.living);
    actors = omega (arith, f.used.actors);
    caches = omega (arith, f.used.caches);
    regions = omega (arith, f.used.regions);
    pages = omega (arith, f.used.pages);
  }) t l

module _ {Manager X Chooser : Type 0} (M : GhostsOfMapper X) (G : GhostsOfGmi Manager X Chooser) (before : X) (old : Mix Manager) (can : CanCall G old (M.held before) (M.page_bytes before)) (text : Part) (data_pages stack : ℕ)
    (may : MayLoad (G.machine old.gmi (M.held before)) old.processes.items text data_pages stack) where
  abbrev m : Machine
  m = G.machine old.gmi (M.held before)

  abbrev front : List (Option Process)
  front = may.front

  abbrev last : ℕ
  last = length front

  abbrev s : ProcessMachine
  s = processes_seen m old.processes.items old.images.items

  abbrev file : List Page
  file = cache_pages m text.cache.0

  not_own : IsOwnPart text → ⊥
  not_own own = let wrong : false ≡ true = sym (ap model.may_write may.area) ∙ own in absurd (cc wrong)

  many_last : length old.processes.items ≡ last + 1
  many_last = ap length may.is ∙ length-append front (Some may.child ∷ [])

  within : last < length s.processes
  within = omega (arith, length-map old.processes.items (option_map (process_seen m)), many_last)

  file_few : length file ≤ LIVE_PAGES
  file_few = cache_few m text.cache.0 may.image.cache may.image.there can.live

  none_of : (a : Area) → pages_in a may.child.parts.items ≡ 0
  none_of a = ap (pages_in a) may.bare

  -- The text

  pub may_text : MayMap G (M.held before) (M.page_bytes before) old last may.child text
  may_text = record {
    able = respared (numbered old.processes.items) none_spare (spare_of (text ∷ [])) can (λ k none. absurd none) (λ k sp. not_own (spare_only text k sp).0);
    room = record {
      there = ap (λ (xs : List (Option Process)). slice_get xs last) may.is ∙ get_last front (Some may.child);
      some = may.image.some;
      few = subst (λ (a : Area). pages_in a may.child.parts.items + text.pages ≤ most_of a) (sym may.area) (omega (arith, none_of Text, may.few_text));
      first = λ other. none_of text.area;
    };
    is_part = subst (λ (a : Area). IsPart m a text) (sym may.area) may.image;
  }

  bare_seen : process_seen m may.child ≡ record { text_pages = []; data_pages = []; stack_pages = []; pieces = [] }
  bare_seen = λ i. record { text_pages = area_seen m Text (may.bare i); data_pages = area_seen m Data (may.bare i); stack_pages = area_seen m Stack (may.bare i); pieces = sizes_in Data (may.bare i) }

  pub no_text : (t : Trouble) (new : Mix Manager) → IsUnmapped G (M.held before) (M.page_bytes before) old last may.child text t new → IsLoaded M G before old front text data_pages stack (Err t) before new
  no_text t new i = record {
    can = respared (numbered new.processes.items) (spare_of (text ∷ [])) none_spare i.able (λ k sp. not_own (spare_only text k sp).0) (λ k none. absurd none);
    child = i.put.now;
    table = i.put.processes ∙ ap (λ (xs : List (Option Process)). set xs last (Some i.put.now)) may.is ∙ set_last front (Some may.child) (Some i.put.now) (length front) refl;
    images = i.put.images;
    loads = lack_still (usage_of m) (usage_to_load data_pages stack) (usage_of m) usage_to_map (record { living = omega arith; actors = omega arith; caches = omega arith; regions = omega arith; pages = omega arith }) t i.lack;
    kept = λ k c e. ap (λ (x : Machine). cache_of x k) i.machine ∙ e;
    used = subst (λ (x : Machine). IsWithin (usage_of x) (usage_sum (usage_of m) (usage_to_load data_pages stack))) (sym i.machine) (record { living = omega arith; actors = omega arith; caches = omega arith; regions = omega arith; pages = omega arith });
    made = omega (arith, i.made, may.few_text, file_few);
    segments = refl;
    rises = no_counts;
    rose = rise_none (M.counts before);
  }

  module _ (s1 : Mix Manager) (i : IsMapped G (M.held before) (M.page_bytes before) old last may.child text s1) where
    abbrev child1 : Process
    child1 = i.put.now

    abbrev m1 : Machine
    m1 = G.machine s1.gmi (M.held before)

    abbrev seen1 : model.Process
    seen1 = record { text_pages = take text.pages file; data_pages = []; stack_pages = []; pieces = [] }

    so_far1 : IsSoFar M G before old front usage_to_map (8 * (text.pages + length file) + 8) before s1 child1
    so_far1 = record {
      can = i.can;
      table = i.put.processes ∙ ap (λ (xs : List (Option Process)). set xs last (Some child1)) may.is ∙ set_last front (Some may.child) (Some child1) (length front) refl;
      images = i.put.images;
      kept = i.kept;
      used = i.used;
      made = i.made;
      segments = refl;
      rises = no_counts;
      rose = rise_none (M.counts before);
    }

    is1 : processes_seen m1 s1.processes.items s1.images.items ≡ put_at s last seen1
    is1 = i.seen ∙ (λ j. put_at s last (with_more (may.area j) (part_seen m text) (bare_seen j)))

    child1_seen : process_seen m1 child1 ≡ seen1
    child1_seen = last_is m1 front child1 s1.images.items s seen1 (ap (λ (xs : List (Option Process)). processes_seen m1 xs s1.images.items) (sym so_far1.table) ∙ is1) within

    parts1 : child1.parts.items ≡ [] ++ text ∷ []
    parts1 = i.put.parts_now ∙ ap (λ (xs : List Part). xs ++ text ∷ []) may.bare

    pages1 : (a : Area) → same_area Text a ≡ false → pages_in a child1.parts.items ≡ 0
    pages1 a other = ap (pages_in a) parts1 ∙ one_more a [] text false (ap (λ (x : Area). same_area x a) may.area ∙ other)

    -- The data

    abbrev behind : Option Source
    behind = Some (text.cache, record { 0 = text.pages })

    file1 : cache_pages m1 text.cache.0 ≡ file
    file1 = pages_there m1 text.cache.0 may.image.cache (i.kept text.cache.0 may.image.cache may.image.there) ∙ sym (pages_there m text.cache.0 may.image.cache may.image.there)

    pub may_data : MayAdd m1 s1.processes.items last child1 Data data_pages behind
    may_data = record {
      room = record {
        there = ap (λ (xs : List (Option Process)). slice_get xs last) so_far1.table ∙ get_last front (Some child1);
        some = may.some_data;
        few = omega (arith, pages1 Data refl, may.few_data);
        first = λ other. absurd (other refl);
      };
      own = refl;
      source_there = (may.image.cache, i.kept text.cache.0 may.image.cache may.image.there, omega (arith, may.enough, ap length (pages_there m text.cache.0 may.image.cache may.image.there)));
    }

    pub made1 : G.made old.gmi ≤ 2 ^ 61 + 2 ^ 29 → G.made s1.gmi ≤ 2 ^ 61 + 2 ^ 30
    made1 few = omega (arith, few, i.made, may.few_text, file_few)

    pub no_data : (t : Trouble) (after : X) (new : Mix Manager) → IsAdded M G before s1 last child1 Data data_pages behind (Err t) after new → IsLoaded M G before old front text data_pages stack (Err t) after new
    no_data t after new a =
        let f = further M G before old front usage_to_map (8 * (text.pages + length file) + 8) before s1 child1 so_far1 Data data_pages behind (Err t) after new a a.adds.put.now a.adds.put.processes a.adds.put.images in
        record {
          can = f.can;
          child = a.adds.put.now;
          table = f.table;
          images = f.images;
          loads = lack_still (usage_of m) (usage_to_load data_pages stack) (usage_of m) (usage_sum usage_to_map (usage_to_grow data_pages)) (record { living = omega arith; actors = omega arith; caches = omega arith; regions = omega arith; pages = omega arith }) t
              (lack_of M G before old front usage_to_map (8 * (text.pages + length file) + 8) before s1 child1 so_far1 Data data_pages behind t a.adds.lack);
          kept = f.kept;
          used = record {
            living = omega (arith, f.used.living);
            actors = omega (arith, f.used.actors);
            caches = omega (arith, f.used.caches);
            regions = omega (arith, f.used.regions);
            pages = omega (arith, f.used.pages);
          };
          made = omega (arith, f.made, ap length file1, may.few_text, may.few_data, file_few);
          segments = f.segments;
          rises = f.rises;
          rose = f.rose;
        }

    module _ (u : Unit {0}) (now : X) (s2 : Mix Manager) (a : IsAdded M G before s1 last child1 Data data_pages behind (Ok u) now s2) where
      abbrev child2 : Process
      child2 = a.adds.put.now

      abbrev m2 : Machine
      m2 = G.machine s2.gmi (M.held now)

      abbrev seen2 : model.Process
      seen2 = record { text_pages = take text.pages file; data_pages = take data_pages (drop text.pages file); stack_pages = []; pieces = data_pages ∷ [] }

      data_long : length (take data_pages (drop text.pages file)) ≡ data_pages
      data_long = length-take-le data_pages (drop text.pages file) (omega (arith, may.enough, length-drop text.pages file))

      so_far2 : IsSoFar M G before old front (usage_sum usage_to_map (usage_to_grow data_pages)) (8 * (text.pages + length file) + 8 + own_budget m1 behind data_pages) now s2 child2
      so_far2 = further M G before old front usage_to_map (8 * (text.pages + length file) + 8) before s1 child1 so_far1 Data data_pages behind (Ok u) now s2 a child2 a.adds.put.processes a.adds.put.images

      is2 : processes_seen m2 s2.processes.items s2.images.items ≡ put_at s last seen2
      is2 = a.adds.seen
          ∙ (λ j. put_at (is1 j) last (with_more Data (take data_pages (drop text.pages (file1 j))) (child1_seen j)))
          ∙ ap (λ (n : ℕ). put_at (put_at s last seen1) last (record seen2 { pieces = n ∷ [] })) data_long
          ∙ put_twice s last seen1 seen2

      child2_seen : process_seen m2 child2 ≡ seen2
      child2_seen = last_is m2 front child2 s2.images.items s seen2 (ap (λ (xs : List (Option Process)). processes_seen m2 xs s2.images.items) (sym so_far2.table) ∙ is2) within

      -- no stack yet
      pages2 : pages_in Stack child2.parts.items ≡ 0
      pages2 = ap (pages_in Stack) a.adds.put.parts_now
          ∙ one_more Stack child1.parts.items a.adds.part false (ap (λ (x : Area). same_area x Stack) a.adds.area_is)
          ∙ (let none = pages1 Stack refl in omega (arith, none))

      pub may_stack : MayAdd m2 s2.processes.items last child2 Stack stack None
      may_stack = record {
        room = record {
          there = ap (λ (xs : List (Option Process)). slice_get xs last) so_far2.table ∙ get_last front (Some child2);
          some = may.some_stack;
          few = omega (arith, pages2, may.few_stack);
          first = λ other. pages2;
        };
        own = refl;
        source_there = tt;
      }

      pub made2 : G.made old.gmi ≤ 2 ^ 61 + 2 ^ 29 → G.made s2.gmi ≤ 2 ^ 61 + 2 ^ 30
      made2 few = omega (arith, few, so_far2.made, ap length file1, may.few_text, may.few_data, file_few)

      stack_is : replicate stack (fresh_page (segments_of (M.held now)) m2.page_bytes) ≡ replicate stack (fresh_page (segments_of (M.held before)) m.page_bytes)
      stack_is = λ j. replicate stack (fresh_page (so_far2.segments j) ((so_far2.can.tied.page ∙ sym can.tied.page) j))

      pub stacked : (result : Result (Unit {0}) Trouble) (after : X) (new : Mix Manager) → IsAdded M G now s2 last child2 Stack stack None result after new → IsLoaded M G before old front text data_pages stack result after new
      stacked (Ok v) after new b =
          let f = further M G before old front (usage_sum usage_to_map (usage_to_grow data_pages)) (8 * (text.pages + length file) + 8 + own_budget m1 behind data_pages) now s2 child2 so_far2 Stack stack None (Ok v) after new b b.adds.put.now b.adds.put.processes b.adds.put.images in
          record {
            can = f.can;
            child = b.adds.put.now;
            table = f.table;
            images = f.images;
            loads = b.adds.seen
                ∙ (λ j. put_at (is2 j) last (with_more Stack (stack_is j) (child2_seen j)))
                ∙ put_twice s last seen2 (loaded (segments_of (M.held before)) m text data_pages stack);
            kept = f.kept;
            used = record {
              living = omega (arith, f.used.living);
              actors = omega (arith, f.used.actors);
              caches = omega (arith, f.used.caches);
              regions = omega (arith, f.used.regions);
              pages = omega (arith, f.used.pages);
            };
            made = omega (arith, f.made, ap length file1, may.few_text, may.few_data, may.few_stack, file_few);
            segments = f.segments;
            rises = f.rises;
            rose = f.rose;
          }
      stacked (Err t) after new b =
          let f = further M G before old front (usage_sum usage_to_map (usage_to_grow data_pages)) (8 * (text.pages + length file) + 8 + own_budget m1 behind data_pages) now s2 child2 so_far2 Stack stack None (Err t) after new b b.adds.put.now b.adds.put.processes b.adds.put.images in
          record {
            can = f.can;
            child = b.adds.put.now;
            table = f.table;
            images = f.images;
            loads = lack_still (usage_of m) (usage_to_load data_pages stack) (usage_of m) (usage_sum (usage_sum usage_to_map (usage_to_grow data_pages)) (usage_to_grow stack)) (record { living = omega arith; actors = omega arith; caches = omega arith; regions = omega arith; pages = omega arith }) t
                (lack_of M G before old front (usage_sum usage_to_map (usage_to_grow data_pages)) (8 * (text.pages + length file) + 8 + own_budget m1 behind data_pages) now s2 child2 so_far2 Stack stack None t b.adds.lack);
            kept = f.kept;
            used = record {
              living = omega (arith, f.used.living);
              actors = omega (arith, f.used.actors);
              caches = omega (arith, f.used.caches);
              regions = omega (arith, f.used.regions);
              pages = omega (arith, f.used.pages);
            };
            made = omega (arith, f.made, ap length file1, may.few_text, may.few_data, may.few_stack, file_few);
            segments = f.segments;
            rises = f.rises;
            rose = f.rose;
          }

  -- The calls are made at the last place.
  module _ (place : ℕ) (at : place ≡ last) where
    pub text_may : MayMap G (M.held before) (M.page_bytes before) old place may.child text
    text_may = subst (λ (k : ℕ). MayMap G (M.held before) (M.page_bytes before) old k may.child text) (sym at) may_text

    pub text_maps : (result : Result (Unit {0}) Trouble) (s1 : Mix Manager) → ((told : Option Held) (page : Option ℕ) (process : Process) → MayMap G told page old place process text → MapsPart G told page old place process text result s1)
        → MapsPart G (M.held before) (M.page_bytes before) old last may.child text result s1
    text_maps result s1 h = subst (λ (k : ℕ). MapsPart G (M.held before) (M.page_bytes before) old k may.child text result s1) at (h (M.held before) (M.page_bytes before) may.child text_may)

    module _ (s1 : Mix Manager) (i : IsMapped G (M.held before) (M.page_bytes before) old last may.child text s1) where
      pub data_may : MayAdd (m1 s1 i) s1.processes.items place (child1 s1 i) Data data_pages (behind s1 i)
      data_may = subst (λ (k : ℕ). MayAdd (m1 s1 i) s1.processes.items k (child1 s1 i) Data data_pages (behind s1 i)) (sym at) (may_data s1 i)

      pub data_adds : (result : Result (Unit {0}) Trouble) (now : X) (s2 : Mix Manager) → ((process : Process) → MayAdd (m1 s1 i) s1.processes.items place process Data data_pages (behind s1 i) → IsAdded M G before s1 place process Data data_pages (behind s1 i) result now s2)
          → IsAdded M G before s1 last (child1 s1 i) Data data_pages (behind s1 i) result now s2
      data_adds result now s2 h = subst (λ (k : ℕ). IsAdded M G before s1 k (child1 s1 i) Data data_pages (behind s1 i) result now s2) at (h (child1 s1 i) data_may)

      module _ (u : Unit {0}) (now : X) (s2 : Mix Manager) (a : IsAdded M G before s1 last (child1 s1 i) Data data_pages (behind s1 i) (Ok u) now s2) where
        pub stack_may : MayAdd (m2 s1 i u now s2 a) s2.processes.items place (child2 s1 i u now s2 a) Stack stack None
        stack_may = subst (λ (k : ℕ). MayAdd (m2 s1 i u now s2 a) s2.processes.items k (child2 s1 i u now s2 a) Stack stack None) (sym at) (may_stack s1 i u now s2 a)

        pub stack_adds : (result : Result (Unit {0}) Trouble) (after : X) (new : Mix Manager) → ((process : Process) → MayAdd (m2 s1 i u now s2 a) s2.processes.items place process Stack stack None → IsAdded M G now s2 place process Stack stack None result after new)
            → IsAdded M G now s2 last (child2 s1 i u now s2 a) Stack stack None result after new
        stack_adds result after new h = subst (λ (k : ℕ). IsAdded M G now s2 k (child2 s1 i u now s2 a) Stack stack None result after new) at (h (child2 s1 i u now s2 a) stack_may)
