-- A process is made of a segment.
use Rattle.std.proofs.Common.{◌≡◌, ℕ, ◌+◌, ◌^◌, ◌≤◌, ◌<◌, true, false, Vec, Global, List, [], ◌∷◌, ◌++◌, length, map, set, take, drop, replicate, Option, Some, None, refl, sym, ap, subst, ◌∙◌, arith}
use Rattle.std.specs.Prelude.{Ok, Err, Result, option_map, slice_get}
use Rattle.std.specs.FinMap.{get}
use Rattle.std.proofs.lemmas.List.{length-append, length-map}
use Rattle.std.proofs.lemmas.List.Sums.{sum_by_push}
use Rattle.vm_ids.specs.declared.command.MixCommand.{MixCommand}
use Rattle.vm_ids.specs.declared.command.MixCommand.TheVariants as commands
use Rattle.vm_ids.specs.declared.refusal.Refusal.TheVariants as refusals
use Rattle.vm_ids.specs.declared.reply.FaultAt.TheVariants as faults
use Rattle.vm_ids.specs.declared.reply.Reply.TheVariants as replies
use Rattle.vm_ids.specs.declared.reply.Trouble.TheVariants as troubles
use Rattle.gmi_calls.proofs.Rising.{rise_then}
use Rattle.interface_callers.proofs.Words.{Answer, Cache, CacheId, GhostsOfGmi, GhostsOfMapper, Held, Machine, MapperCounts, Page, ProcId, SegId, Segments, Trouble, answer_by, cache_of, counts_sum, segments_of}
use Rattle.interface_callers.proofs.Blanks.{as_untold}
use Rattle.mix_process.specs.Adding.{AreKept, fresh_page, put_at}
use Rattle.mix_process.specs.Answering.{is_too_large, process_from, with_image}
use Rattle.mix_process.specs.Calling.{MixCall}
use Rattle.mix_process.specs.Loaded.{IsLoaded, MayLoad, loaded, usage_to_load}
use Rattle.mix_process.specs.Outcome.{RaisedBy, Usage, one_cache, usage_for, usage_of}
use Rattle.mix_process.specs.ProcessMachine as model
use Rattle.mix_process.specs.ProcessMachine.{ProcessMachine, image_of}
use Rattle.mix_process.specs.Seen.{cache_pages, process_seen, processes_seen, state_of}
use Rattle.mix_process.specs.Starting.{Checks, HoldsIn, IsLastAlive, IsMadeOrTakenBack, IsOpened, IsStarted, IsTakenBack, LacksImage, usage_to_start}
use Rattle.mix_process.specs.Stepping.{StepAt, StepOver, each_of, each_page, no_bytes}
use Rattle.mix_process.specs.Tying.{AreSynchronised, CanCall}
use Rattle.mix_process.specs.Use.{IsLack, IsWithin, usage_sum}
use Rattle.mix_process.specs.declared.area.Area.TheVariants.{Text}
use Rattle.mix_process.specs.declared.mix.Image.{Image}
use Rattle.mix_process.specs.declared.mix.Mix.{Mix}
use Rattle.mix_process.specs.declared.process.Part.{Part}
use Rattle.mix_process.specs.declared.process.Process.{Process}
use Rattle.mix_process.proofs.Starts.TakenBack.{one_end}
use Rattle.mix_process.proofs.Definition.ExecRow.{image_filled, process_filled, row_large, segments_for, step_bad, step_fault, step_good, step_lacks, step_many, step_memory, step_nothing, with_image_filled}
use Rattle.mix_process.proofs.Commands.Fork.{seen_kept}
use Rattle.mix_process.proofs.Ties.Having.{had}
use Rattle.mix_process.proofs.Starts.ImageCalls.{image_seen_for, image_there, map_snoc}
use Rattle.mix_process.proofs.Starts.PartsInherited.{set_last}
use Rattle.mix_process.proofs.Reading.Seeing.{pages_there}
use Rattle.mix_process.proofs.Calling.OneCall.{refused_called}
use Rattle.mix_process.proofs.Calling.UntoldSteps.{filled_up, seen_filled, step_with, zeros}
use Rattle.mix_process.proofs.Calling.Using.{lack_still}
use Rattle.mix_process.proofs.Starts.ExecSteps.{alive_one, fit_sizes, made_sum, told_holds}

module _ {Manager X Chooser : Type 0} (M : GhostsOfMapper X) (G : GhostsOfGmi Manager X Chooser) (old : Mix Manager) (before : X) (can : CanCall G old (M.held before) (M.page_bytes before)) (seg : SegId) (text data_pages stack : ℕ) where
  abbrev m : Machine
  m = G.machine old.gmi (M.held before)

  abbrev s : ProcessMachine
  s = processes_seen m old.processes.items old.images.items

  abbrev u : Usage
  u = usage_of m

  abbrev command : MixCommand
  command = commands.Exec seg text data_pages stack

  abbrev base : Option Segments
  base = segments_of (M.held before)

  pub large : is_too_large text data_pages stack ≡ true → MixCall M G before old command (Err (troubles.Refused refusals.TooLarge)) before old
  large e = refused_called M G old before can command (Err (troubles.Refused refusals.TooLarge)) (λ x like h. row_large x seg text data_pages stack e (get h.pages seg.0))

  module _ (fits : is_too_large text data_pages stack ≡ false) where
    -- Steps from here, by what the segment holds

    module _ (new : Mix Manager) (after : X) (rises : MapperCounts) (able : CanCall G new (M.held after) (M.page_bytes after)) (same : segments_of (M.held after) ≡ base) (raise : RaisedBy (usage_for 3 0) u (usage_of (G.machine new.gmi (M.held after)))) where
      abbrev v : Usage
      v = usage_of (G.machine new.gmi (M.held after))

      abbrev now : Option Segments
      now = segments_of (M.held after)

      abbrev next : ProcessMachine
      next = processes_seen (G.machine new.gmi (M.held after)) new.processes.items new.images.items

      bare_before : now ≡ None → s ≡ each_page no_bytes (filled_up s)
      bare_before e = seen_filled m old.processes.items old.images.items (as_untold (M.held before) (sym same ∙ e) can.blank)

      bare_after : now ≡ None → next ≡ each_page no_bytes (filled_up next)
      bare_after e = seen_filled (G.machine new.gmi (M.held after)) new.processes.items new.images.items (as_untold (M.held after) e able.blank)

      lift : (a : Answer) → ((h : Segments) → now ≡ Some h → StepOver h (state_of G old (M.held before)) command a rises (state_of G new (M.held after)))
          → (now ≡ None → (h : Segments) × StepOver h (record { processes = filled_up s; usage = u; segments = base }) command a rises (record { processes = filled_up next; usage = v; segments = now }))
          → (told : Option Segments) → now ≡ told → StepAt told (state_of G old (M.held before)) command a rises (state_of G new (M.held after))
      lift a f g (Some h) e = f h e
      lift a f g None e = let k = g e in step_with k.0 base now s next u v command a rises can.tied.page (bare_before e) (bare_after e) k.1

      over : (h : Segments) (x z w : ProcessMachine) (a : Answer) → w ≡ z → StepOver h (record { processes = x; usage = u; segments = base }) command a rises (record { processes = z; usage = v; segments = now })
          → StepOver h (record { processes = x; usage = u; segments = base }) command a rises (record { processes = w; usage = v; segments = now })
      over h x z w a is step = subst (λ (q : ProcessMachine). StepOver h (record { processes = x; usage = u; segments = base }) command a rises (record { processes = q; usage = v; segments = now })) (sym is) step

      -- The image wasn't there

      module _ (none : image_of s seg.0 ≡ None) (is : next ≡ s) where
        none_zeros : image_of (filled_up s) seg.0 ≡ None
        none_zeros = image_filled s seg.0 ∙ ap (option_map (map zeros)) none

        zeros_is : filled_up next ≡ filled_up s
        zeros_is = ap (λ (y : ProcessMachine). filled_up y) is

        pub unopened : RaisedBy one_cache u v → (t : Trouble) → LacksImage m now seg.0 rises t → StepAt now (state_of G old (M.held before)) command (Err t) rises (state_of G new (M.held after))
        unopened one troubles.Memory why = lift (Err troubles.Memory)
            (λ h e. over h s s next (Err troubles.Memory) is (step_memory s seg text data_pages stack fits u v base now rises raise h (get h.pages seg.0) refl none))
            (λ e. let k = segments_for seg.0 None in (k.0, over k.0 (filled_up s) (filled_up s) (filled_up next) (Err troubles.Memory) zeros_is (step_memory (filled_up s) seg text data_pages stack fits u v base now rises raise k.0 None k.1 none_zeros))) now refl
        unopened one (troubles.Refused refusals.TooMany) why = lift (Err (troubles.Refused refusals.TooMany))
            (λ h e. over h s s next (Err (troubles.Refused refusals.TooMany)) is (step_many s seg text data_pages stack fits u v base now rises raise h why.0 (subst (λ (o : Option Segments). HoldsIn o seg.0 why.0) e why.1) none why.2))
            (λ e. let k = segments_for seg.0 why.0 in (k.0, over k.0 (filled_up s) (filled_up s) (filled_up next) (Err (troubles.Refused refusals.TooMany)) zeros_is (step_many (filled_up s) seg text data_pages stack fits u v base now rises raise k.0 why.0 k.1 none_zeros why.2))) now refl
        unopened one (troubles.Refused refusals.NoSegment) why = lift (Err (troubles.Refused refusals.NoSegment))
            (λ h e. over h s s next (Err (troubles.Refused refusals.NoSegment)) is (step_nothing s seg text data_pages stack fits u v base now rises raise h None (subst (λ (o : Option Segments). HoldsIn o seg.0 None) e why) none one refl))
            (λ e. let k = segments_for seg.0 None in (k.0, over k.0 (filled_up s) (filled_up s) (filled_up next) (Err (troubles.Refused refusals.NoSegment)) zeros_is (step_nothing (filled_up s) seg text data_pages stack fits u v base now rises raise k.0 None k.1 none_zeros one refl))) now refl
        unopened one (troubles.Mapper faults.Opening) why = lift (Err (troubles.Mapper faults.Opening))
            (λ h e. over h s s next (Err (troubles.Mapper faults.Opening)) is (step_fault s seg text data_pages stack fits u v base now rises raise h (get h.pages seg.0) refl none why.0 why.1))
            (λ e. let k = segments_for seg.0 None in (k.0, over k.0 (filled_up s) (filled_up s) (filled_up next) (Err (troubles.Mapper faults.Opening)) zeros_is (step_fault (filled_up s) seg text data_pages stack fits u v base now rises raise k.0 None k.1 none_zeros why.0 why.1))) now refl
        unopened one t why = absurd why

      -- The image has these pages

      module _ (pages : List Page) (holds : HoldsIn now seg.0 (Some pages)) (has : image_of (with_image s seg.0 (Some pages)) seg.0 ≡ Some pages) where
        abbrev y : ProcessMachine
        y = with_image s seg.0 (Some pages)

        abbrev filled : List Page
        filled = map zeros pages

        held_by : (h : Segments) → now ≡ Some h → get h.pages seg.0 ≡ Some pages
        held_by h e = told_holds (M.held after) h seg.0 pages e holds

        has_zeros : image_of (with_image (filled_up s) seg.0 (Some filled)) seg.0 ≡ Some filled
        has_zeros = ap (λ (x : ProcessMachine). image_of x seg.0) (sym (with_image_filled s seg.0 pages)) ∙ image_filled y seg.0 ∙ ap (option_map (map zeros)) has

        many_zeros : length filled ≡ length pages
        many_zeros = length-map pages zeros

        pub bad : RaisedBy one_cache u v → next ≡ y → length pages < text + data_pages → StepAt now (state_of G old (M.held before)) command (Err (troubles.Refused refusals.BadImage)) rises (state_of G new (M.held after))
        bad one is less = lift (Err (troubles.Refused refusals.BadImage))
            (λ h e. over h s y next (Err (troubles.Refused refusals.BadImage)) is (step_bad s seg text data_pages stack fits u v base now rises raise h pages (held_by h e) has one less))
            (λ e. let k = segments_for seg.0 (Some filled) in (
              k.0,
              over k.0 (filled_up s) (with_image (filled_up s) seg.0 (Some filled)) (filled_up next) (Err (troubles.Refused refusals.BadImage)) (ap (λ (x : ProcessMachine). filled_up x) is ∙ with_image_filled s seg.0 pages)
                  (step_bad (filled_up s) seg text data_pages stack fits u v base now rises raise k.0 filled k.1 has_zeros one (omega (arith, less, many_zeros))),
            )) now refl

        pub lacks : (t : Trouble) → next ≡ y → IsLack u (usage_for 3 (length pages + data_pages + stack)) t → StepAt now (state_of G old (M.held before)) command (Err t) rises (state_of G new (M.held after))
        lacks t is lack = lift (Err t)
            (λ h e. over h s y next (Err t) is (step_lacks s seg text data_pages stack fits u v base now rises raise h pages (held_by h e) has t lack))
            (λ e. let k = segments_for seg.0 (Some filled) in (
              k.0,
              over k.0 (filled_up s) (with_image (filled_up s) seg.0 (Some filled)) (filled_up next) (Err t) (ap (λ (x : ProcessMachine). filled_up x) is ∙ with_image_filled s seg.0 pages)
                  (step_lacks (filled_up s) seg text data_pages stack fits u v base now rises raise k.0 filled k.1 has_zeros t (subst (λ (n : ℕ). IsLack u (usage_for 3 (n + data_pages + stack)) t) (sym many_zeros) lack)),
            )) now refl

        -- the process that is made
        abbrev pub made_of : Option Segments → model.Process
        made_of told = record { text_pages = take text pages; data_pages = take data_pages (drop text pages); stack_pages = replicate stack (fresh_page told 4096); pieces = data_pages ∷ [] }

        as_told : (h : Segments) → now ≡ Some h → made_of now ≡ process_from s.page_bytes pages text data_pages stack
        as_told h e = ap (λ (o : Option Segments). made_of o) e ∙ ap (λ (b : ℕ). process_from b pages text data_pages stack) (sym can.tied.page)

        as_zeros : now ≡ None → each_of zeros (made_of now) ≡ process_from (filled_up s).page_bytes filled text data_pages stack
        as_zeros e = ap (λ (o : Option Segments). each_of zeros (made_of o)) e ∙ process_filled pages text data_pages stack ∙ ap (λ (b : ℕ). process_from b filled text data_pages stack) (sym can.tied.page)

        pub good : (n : ℕ) → n ≡ length y.processes + 1 → next ≡ record y { processes = y.processes ++ Some (made_of now) ∷ [] } → text + data_pages ≤ length pages
            → StepAt now (state_of G old (M.held before)) command (Ok (replies.Process (record { 0 = n }))) rises (state_of G new (M.held after))
        good n number is enough = lift (Ok (replies.Process (record { 0 = n })))
            (λ h e. subst (λ (k : ℕ). StepOver h (state_of G old (M.held before)) command (Ok (replies.Process (record { 0 = k }))) rises (state_of G new (M.held after))) (sym number)
            (over h s (record y { processes = y.processes ++ Some (process_from s.page_bytes pages text data_pages stack) ∷ [] }) next (Ok (replies.Process (record { 0 = length y.processes + 1 })))
            (is ∙ ap (λ (p : model.Process). record y { processes = y.processes ++ Some p ∷ [] }) (as_told h e))
            (step_good s seg text data_pages stack fits u v base now rises raise h pages (held_by h e) has enough)))
            (λ e. let k = segments_for seg.0 (Some filled) in let z : ProcessMachine = with_image (filled_up s) seg.0 (Some filled) in (
              k.0,
              subst (λ (j : ℕ). StepOver k.0 (record { processes = filled_up s; usage = u; segments = base }) command (Ok (replies.Process (record { 0 = j }))) rises (record { processes = filled_up next; usage = v; segments = now }))
                  (ap (λ (x : ProcessMachine). length x.processes + 1) (sym (with_image_filled s seg.0 pages)) ∙ ap (λ (j : ℕ). j + 1) (length-map y.processes (option_map (each_of zeros))) ∙ sym number)
                  (over k.0 (filled_up s) (record z { processes = z.processes ++ Some (process_from (filled_up s).page_bytes filled text data_pages stack) ∷ [] }) (filled_up next) (Ok (replies.Process (record { 0 = length z.processes + 1 })))
                  (ap (λ (x : ProcessMachine). filled_up x) is
                  ∙ (λ i. record (filled_up y) { processes = map_snoc (option_map (each_of zeros)) y.processes (Some (made_of now)) i })
                  ∙ (λ i. record (with_image_filled s seg.0 pages i) { processes = (with_image_filled s seg.0 pages i).processes ++ Some (as_zeros e i) ∷ [] }))
                  (step_good (filled_up s) seg text data_pages stack fits u v base now rises raise k.0 filled k.1 has_zeros (omega (arith, enough, many_zeros)))),
            )) now refl

    -- The calls

    opened_raise : (more x w : Usage) → x ≡ w → RaisedBy more w x
    opened_raise more x w e = subst (λ (z : Usage). RaisedBy more z x) e (record { actors = omega arith; caches = omega arith; regions = omega arith })

    pub not_opened : (t : Trouble) (new : Mix Manager) (after : X) → IsOpened M G before old seg (Err t) after new → MixCall M G before old command (Err t) after new
    not_opened t new after op = record {
      can = op.can;
      made = omega (arith, op.made);
      rises = op.rises;
      rose = op.rose;
      is = record {
        step = unopened new after op.rises op.can op.segments (opened_raise (usage_for 3 0) (usage_of (G.machine new.gmi (M.held after))) u (ap usage_of op.opens.machine))
            (image_seen_for m old.images.items seg.0 ∙ ap (option_map (λ (i : Image). cache_pages m i.cache.0)) op.opens.none)
            (λ i. processes_seen (op.opens.machine i) (op.processes i).items (op.opens.images i)) (opened_raise one_cache (usage_of (G.machine new.gmi (M.held after))) u (ap usage_of op.opens.machine)) t op.opens.why;
        has = had G new (M.held after) (M.page_bytes after) op.can;
        segments = op.segments;
      };
    }

    module _ (mid : Mix Manager) (after : X) (cache : CacheId) (op : IsOpened M G before old seg (Ok cache) after mid) where
      abbrev n : Machine
      n = G.machine mid.gmi (M.held after)

      abbrev pages : List Page
      pages = cache_pages n cache.0

      abbrev whole : ProcessMachine
      whole = with_image s seg.0 (Some pages)

      place : (i : ℕ) × (slice_get mid.images.items i ≡ Some op.opens.image) × (op.opens.image.seg.0 ≡ seg.0)
      place = image_there mid.images.items seg.0 op.opens.image op.opens.found

      holds_by : (told : Option Held) → AreSynchronised n mid.images.items told → HoldsIn (segments_of told) seg.0 (Some pages)
      holds_by None sync = tt
      holds_by (Some h) sync = ap (get h.segments) (sym place.2) ∙ sync place.0 op.opens.image place.1 ∙ ap (λ (c : CacheId). Some (cache_pages n c.0)) op.opens.is

      holds : HoldsIn (segments_of (M.held after)) seg.0 (Some pages)
      holds = holds_by (M.held after) op.can.synchronised

      has : image_of whole seg.0 ≡ Some pages
      has = ap (λ (x : ProcessMachine). image_of x seg.0) (sym op.opens.seen) ∙ image_seen_for n mid.images.items seg.0 ∙ ap (option_map (λ (i : Image). cache_pages n i.cache.0)) op.opens.found ∙ ap (λ (c : CacheId). Some (cache_pages n c.0)) op.opens.is

      seen_mid : processes_seen n mid.processes.items mid.images.items ≡ whole
      seen_mid = (λ i. processes_seen n (op.processes i).items mid.images.items) ∙ op.opens.seen

      pub image_cache : (c : Cache) × (cache_of n cache.0 ≡ Some c) × (c.segment ≡ Some seg.0)
      image_cache = let d = op.can.tied.images_there place.0 op.opens.image place.1 in (d.0, ap (λ (c : CacheId). cache_of n c.0) (sym op.opens.is) ∙ d.1, d.2 ∙ ap (λ (k : ℕ). Some k) place.2)

      pub pages_is : pages ≡ image_cache.0.pages
      pages_is = pages_there n cache.0 image_cache.0 image_cache.1

      mid_one : RaisedBy one_cache u (usage_of n)
      mid_one = let w = op.opens.used in record { actors = omega (arith, w.actors); caches = omega (arith, w.caches); regions = omega (arith, w.regions) }

      mid_raise : RaisedBy (usage_for 3 0) u (usage_of n)
      mid_raise = let w = op.opens.used in record { actors = omega (arith, w.actors); caches = omega (arith, w.caches); regions = omega (arith, w.regions) }

      -- the image hasn't enough pages, or there is no memory to ask
      pub not_checked : (t : Trouble) → Checks image_cache.0.pages (text + data_pages) (Err t) → MixCall M G before old command (Err t) after mid
      not_checked troubles.Memory h = record {
        can = op.can;
        made = omega (arith, op.made);
        rises = op.rises;
        rose = op.rose;
        is = record { step = lacks mid after op.rises op.can op.segments mid_raise pages holds has troubles.Memory seen_mid tt; has = had G mid (M.held after) (M.page_bytes after) op.can; segments = op.segments };
      }
      not_checked (troubles.Refused refusals.BadImage) h = record {
        can = op.can;
        made = omega (arith, op.made);
        rises = op.rises;
        rose = op.rose;
        is = record { step = bad mid after op.rises op.can op.segments mid_raise pages holds has mid_one seen_mid (omega (arith, h, ap (λ (xs : List Page). length xs) pages_is)); has = had G mid (M.held after) (M.page_bytes after) op.can; segments = op.segments };
      }
      not_checked t h = absurd h

      start_less : IsWithin (usage_sum (usage_of n) usage_to_start) (usage_sum u (usage_for 3 (length pages + data_pages + stack)))
      start_less = let w = op.opens.used in record { living = omega (arith, w.living); actors = omega (arith, w.actors); caches = omega (arith, w.caches); regions = omega (arith, w.regions); pages = omega (arith, w.pages) }

      -- it wasn't begun
      pub not_begun : (t : Trouble) (new : Mix Manager) → IsStarted G (M.held after) (M.page_bytes after) mid (Err t) new → MixCall M G before old command (Err t) after new
      not_begun t new st = record {
        can = st.can;
        made = omega (arith, op.made, st.made);
        rises = op.rises;
        rose = op.rose;
        is = record {
          step = lacks new after op.rises st.can op.segments (subst (λ (x : Machine). RaisedBy (usage_for 3 0) u (usage_of x)) (sym st.starts.machine) mid_raise) pages holds has t
              ((λ i. processes_seen (st.starts.machine i) (st.starts.table i) (st.images i).items) ∙ seen_mid)
              (lack_still u (usage_for 3 (length pages + data_pages + stack)) (usage_of n) usage_to_start start_less t st.starts.why);
          has = had G new (M.held after) (M.page_bytes after) st.can;
          segments = op.segments;
        };
      }

      module _ (enough : text + data_pages ≤ length image_cache.0.pages) (some_text : 1 ≤ text) (some_data : 1 ≤ data_pages) (some_stack : 1 ≤ stack) (started : Mix Manager) (st : IsStarted G (M.held after) (M.page_bytes after) mid (Ok tt) started) where
        abbrev k : Machine
        k = G.machine started.gmi (M.held after)

        abbrev pub text_part : Part
        text_part = record { area = Text; cache = cache; pages = text }

        pub kept : AreKept n k
        kept = λ c d e. ap (λ (x : Machine). cache_of x c) st.starts.machine ∙ e

        pub pages_now : cache_pages k cache.0 ≡ pages
        pages_now = ap (λ (x : Machine). cache_pages x cache.0) st.starts.machine

        pub sizes_fit : (text ≤ 1024) × (data_pages ≤ 65536) × (stack ≤ 1024)
        sizes_fit = fit_sizes text data_pages stack fits

        abbrev pub may_load : MayLoad k started.processes.items text_part data_pages stack
        may_load = record {
          front = mid.processes.items;
          child = st.starts.process;
          is = st.starts.table;
          bare = st.starts.bare;
          area = refl;
          image = record { cache = image_cache.0; seg = seg.0; there = kept cache.0 image_cache.0 image_cache.1; named = image_cache.2; some = some_text; many = omega (arith, enough) };
          enough = omega (arith, enough, ap (λ (xs : List Page). length xs) pages_now, ap (λ (xs : List Page). length xs) pages_is);
          few_text = sizes_fit.0;
          some_data = some_data;
          few_data = sizes_fit.1;
          some_stack = some_stack;
          few_stack = sizes_fit.2;
        }

        begun_usage : IsWithin (usage_of k) (usage_sum (usage_of n) usage_to_start)
        begun_usage = subst (λ (x : Machine). IsWithin (usage_of x) (usage_sum (usage_of n) usage_to_start)) (sym st.starts.machine) (record {
          living = omega (arith, sum_by_push alive_one n.actors (Some []));
          actors = omega (arith, length-append n.actors (Some [] ∷ []));
          caches = omega arith;
          regions = omega arith;
          pages = omega arith;
        })

        less : IsWithin (usage_sum (usage_of k) (usage_to_load data_pages stack)) (usage_sum u (usage_for 3 (length pages + data_pages + stack)))
        less = let a = begun_usage in let w = op.opens.used in record {
          living = omega (arith, a.living, w.living);
          actors = omega (arith, a.actors, w.actors);
          caches = omega (arith, a.caches, w.caches);
          regions = omega (arith, a.regions, w.regions);
          pages = omega (arith, a.pages, w.pages);
        }

        module _ (made : Result (Unit {0}) Trouble) (next : Mix Manager) (now : X) (f : IsLoaded M G after started mid.processes.items text_part data_pages stack made now next) where
          pub last_alive : IsLastAlive next.processes.items
          last_alive = record { front = mid.processes.items; process = f.child; is = f.table }

          pub made_now : G.made old.gmi ≤ 2 ^ 61 → G.made next.gmi ≤ 2 ^ 61 + 2 ^ 30
          made_now h = made_sum (G.made old.gmi) (G.made mid.gmi) (G.made started.gmi) (G.made next.gmi) h op.made st.made f.made

          raise_now : RaisedBy (usage_for 3 0) u (usage_of (G.machine next.gmi (M.held now)))
          raise_now = let a = begun_usage in let b = f.used in let w = op.opens.used in record {
            actors = omega (arith, a.actors, b.actors, w.actors);
            caches = omega (arith, a.caches, b.caches, w.caches);
            regions = omega (arith, a.regions, b.regions, w.regions);
          }

        holds_at : (now : X) → segments_of (M.held now) ≡ segments_of (M.held after) → HoldsIn (segments_of (M.held now)) seg.0 (Some pages)
        holds_at now e = subst (λ (o : Option Segments). HoldsIn o seg.0 (Some pages)) (sym e) holds

        pub executed : (next : Mix Manager) (now : X) → IsLoaded M G after started mid.processes.items text_part data_pages stack (Ok tt) now next → MixCall M G before old command (Ok (replies.Process (record { 0 = length next.processes.items }))) now next
        executed next now f = record {
          can = f.can;
          made = omega (arith, op.made, st.made, f.made);
          rises = counts_sum op.rises f.rises;
          rose = rise_then (M.counts before) (M.counts after) (M.counts now) op.rises f.rises op.rose f.rose;
          is = record {
            step = good next now (counts_sum op.rises f.rises) f.can (f.segments ∙ op.segments) (raise_now (Ok tt) next now f) pages (holds_at now f.segments) has (length next.processes.items) many seen (omega (arith, enough, ap (λ (xs : List Page). length xs) pages_is));
            has = had G next (M.held now) (M.page_bytes now) f.can;
            segments = f.segments ∙ op.segments;
          };
        }
          where
            child_is : loaded (segments_of (M.held after)) k text_part data_pages stack ≡ record { text_pages = take text pages; data_pages = take data_pages (drop text pages); stack_pages = replicate stack (fresh_page (segments_of (M.held now)) 4096); pieces = data_pages ∷ [] }
            child_is = λ i. record {
              text_pages = take text (pages_now i);
              data_pages = take data_pages (drop text (pages_now i));
              stack_pages = replicate stack (fresh_page (sym f.segments i) (st.can.tied.page i));
              pieces = data_pages ∷ [];
            }

            seen : processes_seen (G.machine next.gmi (M.held now)) next.processes.items next.images.items
                ≡ record whole { processes = whole.processes ++ Some (record { text_pages = take text pages; data_pages = take data_pages (drop text pages); stack_pages = replicate stack (fresh_page (segments_of (M.held now)) 4096); pieces = data_pages ∷ [] }) ∷ [] }
            seen = f.loads
                ∙ (λ i. put_at (processes_seen (st.starts.machine i) (st.starts.table i) (st.images i).items) (length mid.processes.items) (child_is i))
                ∙ (λ i. record (processes_seen n mid.processes.items mid.images.items) { processes = set (map_snoc (option_map (process_seen n)) mid.processes.items (Some st.starts.process) i) (length mid.processes.items) (Some (record { text_pages = take text pages; data_pages = take data_pages (drop text pages); stack_pages = replicate stack (fresh_page (segments_of (M.held now)) 4096); pieces = data_pages ∷ [] })) })
                ∙ (λ i. record (processes_seen n mid.processes.items mid.images.items) { processes = set_last (map (option_map (process_seen n)) mid.processes.items) (Some (process_seen n st.starts.process)) (Some (record { text_pages = take text pages; data_pages = take data_pages (drop text pages); stack_pages = replicate stack (fresh_page (segments_of (M.held now)) 4096); pieces = data_pages ∷ [] })) (length mid.processes.items) (sym (length-map mid.processes.items (option_map (process_seen n)))) i })
                ∙ ap (λ (x : ProcessMachine). record x { processes = x.processes ++ Some (record { text_pages = take text pages; data_pages = take data_pages (drop text pages); stack_pages = replicate stack (fresh_page (segments_of (M.held now)) 4096); pieces = data_pages ∷ [] }) ∷ [] }) seen_mid

            many : length next.processes.items ≡ length whole.processes + 1
            many = ap (λ (xs : List (Option Process)). length xs) f.table ∙ length-append mid.processes.items (Some f.child ∷ []) ∙ ap (λ (x : ℕ). x + 1) (sym (length-map mid.processes.items (option_map (process_seen n))) ∙ ap (λ (x : ProcessMachine). length x.processes) seen_mid)

        pub unexecuted : (t : Trouble) (next : Mix Manager) (now : X) → IsLoaded M G after started mid.processes.items text_part data_pages stack (Err t) now next
            → (result : Result ProcId Trouble) (new : Mix Manager) (last : X) → IsTakenBack M G now next t result last new → MixCall M G before old command (Err t) last new
        unexecuted t next now f result new last b = record {
          can = b.can;
          made = omega (arith, op.made, st.made, f.made, b.made);
          rises = counts_sum op.rises (counts_sum f.rises b.rises);
          rose = rise_then (M.counts before) (M.counts after) (M.counts last) op.rises (counts_sum f.rises b.rises) op.rose (rise_then (M.counts after) (M.counts now) (M.counts last) f.rises b.rises f.rose b.rose);
          is = record {
            step = lacks new last (counts_sum op.rises (counts_sum f.rises b.rises)) b.can (b.segments ∙ f.segments ∙ op.segments) all pages (holds_at last (b.segments ∙ f.segments)) has t seen
                (lack_still u (usage_for 3 (length pages + data_pages + stack)) (usage_of k) (usage_to_load data_pages stack) less t f.loads);
            has = had G new (M.held last) (M.page_bytes last) b.can;
            segments = b.segments ∙ f.segments ∙ op.segments;
          };
        }
          where
            items : new.processes.items ≡ mid.processes.items
            items = (one_end new.processes.items mid.processes.items (Some b.process) (Some f.child) (sym b.table ∙ f.table)).0

            seen : processes_seen (G.machine new.gmi (M.held last)) new.processes.items new.images.items ≡ whole
            seen = ap (λ (x : Vec Image Global). processes_seen (G.machine new.gmi (M.held last)) new.processes.items x.items) b.images
                ∙ b.seen
                ∙ (λ i. processes_seen (G.machine next.gmi (M.held now)) (items i) (f.images i).items)
                ∙ ap (λ (x : Vec Image Global). processes_seen (G.machine next.gmi (M.held now)) mid.processes.items x.items) st.images
                ∙ seen_kept n (G.machine next.gmi (M.held now)) mid.processes.items mid.images.items op.can.tied (λ c d e. f.kept c d (kept c d e)) (f.can.tied.page ∙ sym op.can.tied.page)
                ∙ seen_mid

            all : RaisedBy (usage_for 3 0) u (usage_of (G.machine new.gmi (M.held last)))
            all = let w = raise_now (Err t) next now f in record { actors = omega (arith, w.actors, b.alike.actors); caches = omega (arith, w.caches, b.alike.caches); regions = omega (arith, w.regions, b.alike.regions) }

        -- what was made is whole, or taken back
        pub finished : (made : Result (Unit {0}) Trouble) (next : Mix Manager) (now : X) → IsLoaded M G after started mid.processes.items text_part data_pages stack made now next
            → (result : Result ProcId Trouble) (new : Mix Manager) (last : X) → IsMadeOrTakenBack M G now next made result last new
            → MixCall M G before old command (answer_by (λ (x : ProcId). replies.Process x) result) last new
        finished (Ok w) next now f result new last b =
            subst (λ (r : Result ProcId Trouble). MixCall M G before old command (answer_by (λ (x : ProcId). replies.Process x) r) last new) (sym b.is)
            (subst (λ (x : Mix Manager). MixCall M G before old command (Ok (replies.Process (record { 0 = length next.processes.items }))) last x) (sym b.same)
            (subst (λ (z : X). MixCall M G before old command (Ok (replies.Process (record { 0 = length next.processes.items }))) z next) (sym b.mapper) (executed next now f)))
        finished (Err t) next now f result new last b =
            subst (λ (r : Result ProcId Trouble). MixCall M G before old command (answer_by (λ (x : ProcId). replies.Process x) r) last new) (sym b.is) (unexecuted t next now f result new last b)
