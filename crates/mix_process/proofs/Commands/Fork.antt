-- A process is forked.
use Rattle.std.proofs.Common.{◌≡◌, ℕ, ◌+◌, ◌≤◌, cond, Vec, Global, List, [], ◌∷◌, ◌++◌, length, set, Option, Some, None, refl, sym, ap, subst, ◌∙◌, arith}
use Rattle.std.specs.Prelude.{Ok, Err, Result, is_some, option_map, slice_get}
use Rattle.std.specs.Option.{option_map_or}
use Rattle.std.proofs.lemmas.List.{length-append, length-map}
use Rattle.std.proofs.lemmas.List.Sums.{sum_by_push}
use Rattle.vm_ids.specs.declared.command.MixCommand.TheVariants as commands
use Rattle.vm_ids.specs.declared.refusal.Refusal.TheVariants as refusals
use Rattle.vm_ids.specs.declared.reply.Reply.TheVariants as replies
use Rattle.vm_ids.specs.declared.reply.Trouble.TheVariants as troubles
use Rattle.vm_model.proofs.Parts.Lists.{numbered-map}
use Rattle.gmi_calls.proofs.Rising.{rise_none, rise_then}
use Rattle.interface_callers.proofs.Words.{Actor, GhostsOfGmi, GhostsOfMapper, IsNotRefused, Machine, MapperCounts, ProcId, Segments, Trouble, answer_by, cache_of, counts_sum, no_counts, numbered, segments_of}
use Rattle.interface_callers.proofs.Blanks.{as_untold}
use Rattle.mix_process.specs.Adding.{AreKept, put_at}
use Rattle.mix_process.specs.Answering as mix
use Rattle.mix_process.specs.Calling.{MixCall}
use Rattle.mix_process.specs.Copying.{IsInherited, MayInherit, usage_of_parts}
use Rattle.mix_process.specs.Outcome.{Outcome, RaisedBy, Usage, makes, no_usage, usage_for, usage_of, usage_to_fork}
use Rattle.mix_process.specs.ProcessMachine as model
use Rattle.mix_process.specs.ProcessMachine.{ProcessMachine, process_of}
use Rattle.mix_process.specs.Seen.{process_seen, processes_seen, state_of}
use Rattle.mix_process.specs.Starting.{IsLastAlive, IsMadeOrTakenBack, IsStarted, IsTakenBack, usage_to_start}
use Rattle.mix_process.specs.Stepping.{StepAt, StepOver, each_of, each_page, no_bytes}
use Rattle.mix_process.specs.Tying.{AreTied, CanCall, IsRun, none_spare}
use Rattle.mix_process.specs.Use.{IsLack, IsWithin, usage_sum}
use Rattle.mix_process.specs.declared.mix.Image.{Image}
use Rattle.mix_process.specs.declared.mix.Mix.{Mix}
use Rattle.mix_process.specs.declared.process.Process.{Process}
use Rattle.mix_process.proofs.Starts.TakenBack.{one_end}
use Rattle.mix_process.proofs.Ties.Counts.{used_to_fork}
use Rattle.mix_process.proofs.Ties.Having.{had}
use Rattle.mix_process.proofs.Starts.ImageCalls.{map_snoc}
use Rattle.mix_process.proofs.Starts.PartsInherited.{set_last}
use Rattle.mix_process.proofs.Ties.Keeping.{images_kept, numbered_at, processes_kept}
use Rattle.mix_process.proofs.Calling.OneCall.{none_here, refused_called}
use Rattle.mix_process.proofs.Calling.UntoldSteps.{filled_up, seen_filled, step_filled, zeros}
use Rattle.mix_process.proofs.Calling.Using.{lack_still}

abbrev alive_one : Option Actor → ℕ
alive_one a = cond (is_some a) 1 0

-- where each cache that was there is kept, the processes have what they had
pub seen_kept : (m n : Machine) (table : List (Option Process)) (images : List Image) → AreTied m (numbered table) none_spare images → AreKept m n → n.page_bytes ≡ m.page_bytes → processes_seen n table images ≡ processes_seen m table images
seen_kept m n table images t kept page = λ i. record {
  page_bytes = page i;
  processes = processes_kept m n table none_spare images t kept i;
  images = images_kept m n table none_spare images t kept i;
}

-- The row, of any machine of processes

module _ (x : ProcessMachine) (of : ProcId) where
  row_by : (o : Option model.Process) → process_of x of.0 ≡ o → mix.fork_of x of.0 ≡ mix.with_some o refusals.NoProcess x (λ p. mix.add_process x p)
  unfolding mix.fork_of
  row_by o e = ap (λ (o : Option model.Process). mix.with_some o refusals.NoProcess x (λ p. mix.add_process x p)) e

  row_none : process_of x of.0 ≡ None → mix.fork_of x of.0 ≡ mix.refuse x refusals.NoProcess
  unfolding mix.with_some
  row_none e = row_by None e

  row_some : (p : model.Process) → process_of x of.0 ≡ Some p → mix.fork_of x of.0 ≡ mix.add_process x p
  unfolding mix.with_some
  row_some p e = row_by (Some p) e

  module _ (p : model.Process) (there : process_of x of.0 ≡ Some p) (u v : Usage) (h : Segments) (told now : Option Segments) (rises : MapperCounts)
      (actors : v.actors ≤ u.actors + (usage_to_fork p).actors) (caches : v.caches ≤ u.caches + (usage_to_fork p).caches) (regions : v.regions ≤ u.regions + (usage_to_fork p).regions) where
    goes_on : IsNotRefused (mix.fork_of x of.0).answer
    goes_on = subst (λ (a : mix.Answered). IsNotRefused a.answer) (sym (row_some p there)) tt

    makes_is : makes x (commands.Fork of) h ≡ usage_to_fork p
    makes_is = ap (λ (o : Option model.Process). option_map_or usage_to_fork o no_usage) there

    raised : RaisedBy (makes x (commands.Fork of) h) u v
    raised = subst (λ (more : Usage). RaisedBy more u v) (sym makes_is) (record { actors = actors; caches = caches; regions = regions })

    lacking : (t : Trouble) → IsLack u (usage_to_fork p) t → Outcome x u (commands.Fork of) h (Err t) x rises
    lacking troubles.Memory lack = (refl, tt, goes_on)
    lacking (troubles.Refused refusals.TooMany) lack = (refl, tt, goes_on, subst (λ (more : Usage). IsLack u more (troubles.Refused refusals.TooMany)) (sym makes_is) lack)
    lacking t lack = absurd lack

    step_lacks : (t : Trouble) → IsLack u (usage_to_fork p) t → StepOver h (record { processes = x; usage = u; segments = told }) (commands.Fork of) (Err t) rises (record { processes = x; usage = v; segments = now })
    step_lacks t lack = record { outcome = lacking t lack; raised = raised }

    step_forks : StepOver h (record { processes = x; usage = u; segments = told }) (commands.Fork of) (Ok (replies.Process (record { 0 = length x.processes + 1 }))) rises (record { processes = record x { processes = x.processes ++ Some p ∷ [] }; usage = v; segments = now })
    step_forks = record { outcome = row_some p there; raised = raised }

zeros_to_fork : (p : model.Process) → usage_to_fork (each_of zeros p) ≡ usage_to_fork p
zeros_to_fork p = λ i. usage_for (2 + length p.pieces) (length-map p.text_pages zeros i + length-map p.data_pages zeros i + length-map p.stack_pages zeros i)

module _ {Manager X Chooser : Type 0} (M : GhostsOfMapper X) (G : GhostsOfGmi Manager X Chooser) (old : Mix Manager) (before : X) (can : CanCall G old (M.held before) (M.page_bytes before)) (of : ProcId) where
  abbrev m : Machine
  m = G.machine old.gmi (M.held before)

  abbrev s : ProcessMachine
  s = processes_seen m old.processes.items old.images.items

  abbrev u : Usage
  u = usage_of m

  pub nobody : numbered old.processes.items of.0 ≡ None → MixCall M G before old (commands.Fork of) (Err (troubles.Refused refusals.NoProcess)) before old
  nobody none = refused_called M G old before can (commands.Fork of) (Err (troubles.Refused refusals.NoProcess)) (λ x like h. row_none x of (like.nobody of.0 (none_here M G old before can of.0 none)))

  module _ (place : ℕ) (p : Process) (number : of.0 ≡ place + 1) (there : slice_get old.processes.items place ≡ Some (Some p)) where
    alive : numbered old.processes.items of.0 ≡ Some p
    alive = ap (numbered old.processes.items) number ∙ numbered_at old.processes.items place p there

    run : IsRun m p
    run = can.tied.run of.0 p alive

    abbrev P : model.Process
    P = process_seen m p

    process_is : process_of s of.0 ≡ Some P
    process_is = numbered-map (process_seen m) old.processes.items of.0 ∙ ap (option_map (process_seen m)) alive

    zeros_there : process_of (filled_up s) of.0 ≡ Some (each_of zeros P)
    zeros_there = numbered-map (each_of zeros) s.processes of.0 ∙ ap (option_map (each_of zeros)) process_is

    used_all : IsWithin (usage_sum usage_to_start (usage_of_parts p.parts.items)) (usage_to_fork P)
    used_all = used_to_fork m p run

    start_less : IsWithin (usage_sum u usage_to_start) (usage_sum u (usage_to_fork P))
    start_less = let w = used_all in record {
      living = omega (arith, w.living);
      actors = omega (arith, w.actors);
      caches = omega (arith, w.caches);
      regions = omega (arith, w.regions);
      pages = omega (arith, w.pages);
    }

    -- The steps, where the segments are told and where they aren't

    module _ (new : Mix Manager) (after : X) (rises : MapperCounts) (able : CanCall G new (M.held after) (M.page_bytes after)) (same : segments_of (M.held after) ≡ segments_of (M.held before))
        (within : RaisedBy (usage_to_fork P) u (usage_of (G.machine new.gmi (M.held after)))) where
      abbrev v : Usage
      v = usage_of (G.machine new.gmi (M.held after))

      abbrev next : ProcessMachine
      next = processes_seen (G.machine new.gmi (M.held after)) new.processes.items new.images.items

      bare_before : segments_of (M.held after) ≡ None → s ≡ each_page no_bytes (filled_up s)
      bare_before e = seen_filled m old.processes.items old.images.items (as_untold (M.held before) (sym same ∙ e) can.blank)

      bare_after : segments_of (M.held after) ≡ None → next ≡ each_page no_bytes (filled_up next)
      bare_after e = seen_filled (G.machine new.gmi (M.held after)) new.processes.items new.images.items (as_untold (M.held after) e able.blank)

      pub lacks : (t : Trouble) → next ≡ s → IsLack u (usage_to_fork P) t → (told : Option Segments) → segments_of (M.held after) ≡ told → StepAt told (state_of G old (M.held before)) (commands.Fork of) (Err t) rises (state_of G new (M.held after))
      lacks t is lack (Some h) e = subst (λ (y : ProcessMachine). StepOver h (state_of G old (M.held before)) (commands.Fork of) (Err t) rises (record { processes = y; usage = v; segments = segments_of (M.held after) })) (sym is)
          (step_lacks s of P process_is u v h (segments_of (M.held before)) (segments_of (M.held after)) rises within.actors within.caches within.regions t lack)
      lacks t is lack None e = step_filled (segments_of (M.held before)) (segments_of (M.held after)) s next u v (commands.Fork of) (Err t) rises can.tied.page (bare_before e) (bare_after e) (λ h.
          subst (λ (y : ProcessMachine). StepOver h (record { processes = filled_up s; usage = u; segments = segments_of (M.held before) }) (commands.Fork of) (Err t) rises (record { processes = y; usage = v; segments = segments_of (M.held after) })) (ap (λ (y : ProcessMachine). filled_up y) (sym is))
          (step_lacks (filled_up s) of (each_of zeros P) zeros_there u v h (segments_of (M.held before)) (segments_of (M.held after)) rises within.actors within.caches within.regions t (subst (λ (more : Usage). IsLack u more t) (sym (zeros_to_fork P)) lack)))

      pub forks : (n : ℕ) → n ≡ length s.processes + 1 → next ≡ record s { processes = s.processes ++ Some P ∷ [] } → (told : Option Segments) → segments_of (M.held after) ≡ told
          → StepAt told (state_of G old (M.held before)) (commands.Fork of) (Ok (replies.Process (record { 0 = n }))) rises (state_of G new (M.held after))
      forks n many is (Some h) e =
          (subst (λ (k : ℕ). StepOver h (state_of G old (M.held before)) (commands.Fork of) (Ok (replies.Process (record { 0 = k }))) rises (state_of G new (M.held after))) (sym many)
          (subst (λ (y : ProcessMachine). StepOver h (state_of G old (M.held before)) (commands.Fork of) (Ok (replies.Process (record { 0 = length s.processes + 1 }))) rises (record { processes = y; usage = v; segments = segments_of (M.held after) })) (sym is)
          (step_forks s of P process_is u v h (segments_of (M.held before)) (segments_of (M.held after)) rises within.actors within.caches within.regions)))
      forks n many is None e = step_filled (segments_of (M.held before)) (segments_of (M.held after)) s next u v (commands.Fork of) (Ok (replies.Process (record { 0 = n }))) rises can.tied.page (bare_before e) (bare_after e) (λ h.
          (subst (λ (k : ℕ). StepOver h (record { processes = filled_up s; usage = u; segments = segments_of (M.held before) }) (commands.Fork of) (Ok (replies.Process (record { 0 = k }))) rises (record { processes = filled_up next; usage = v; segments = segments_of (M.held after) }))
          (ap (λ (k : ℕ). k + 1) (length-map s.processes (option_map (each_of zeros))) ∙ sym many)
          (subst (λ (y : ProcessMachine). StepOver h (record { processes = filled_up s; usage = u; segments = segments_of (M.held before) }) (commands.Fork of) (Ok (replies.Process (record { 0 = length (filled_up s).processes + 1 }))) rises (record { processes = y; usage = v; segments = segments_of (M.held after) }))
          (sym (ap (λ (y : ProcessMachine). filled_up y) is ∙ (λ i. record (filled_up s) { processes = map_snoc (option_map (each_of zeros)) s.processes (Some P) i })))
          (step_forks (filled_up s) of (each_of zeros P) zeros_there u v h (segments_of (M.held before)) (segments_of (M.held after)) rises within.actors within.caches within.regions))))

    -- it wasn't begun
    pub not_forked : (t : Trouble) (new : Mix Manager) → IsStarted G (M.held before) (M.page_bytes before) old (Err t) new → MixCall M G before old (commands.Fork of) (Err t) before new
    not_forked t new st = record {
      can = st.can;
      made = omega (arith, st.made);
      rises = no_counts;
      rose = rise_none (M.counts before);
      is = record {
        step = lacks new before no_counts st.can refl (subst (λ (x : Machine). RaisedBy (usage_to_fork P) u (usage_of x)) (sym st.starts.machine) (record { actors = omega arith; caches = omega arith; regions = omega arith })) t
            (λ i. processes_seen (st.starts.machine i) (st.starts.table i) (st.images i).items) (lack_still u (usage_to_fork P) u usage_to_start start_less t st.starts.why) (segments_of (M.held before)) refl;
        has = had G new (M.held before) (M.page_bytes before) st.can;
        segments = refl;
      };
    }

    module _ (mid : Mix Manager) (st : IsStarted G (M.held before) (M.page_bytes before) old (Ok tt) mid) where
      abbrev k : Machine
      k = G.machine mid.gmi (M.held before)

      abbrev pub may_inherit : MayInherit mid.processes.items place p
      may_inherit = record { front = old.processes.items; child = st.starts.process; is = st.starts.table; there = there; bare = st.starts.bare }

      kept : AreKept m k
      kept = λ c d e. ap (λ (x : Machine). cache_of x c) st.starts.machine ∙ e

      begun_usage : IsWithin (usage_of k) (usage_sum u usage_to_start)
      begun_usage = subst (λ (x : Machine). IsWithin (usage_of x) (usage_sum u usage_to_start)) (sym st.starts.machine) (record {
        living = omega (arith, sum_by_push alive_one m.actors (Some []));
        actors = omega (arith, length-append m.actors (Some [] ∷ []));
        caches = omega arith;
        regions = omega arith;
        pages = omega arith;
      })

      module _ (next : Mix Manager) (now : X) (result : Result (Unit {0}) Trouble) (f : IsInherited M G before mid old.processes.items p result now next) where
        abbrev n : Machine
        n = G.machine next.gmi (M.held now)

        pub last_alive : IsLastAlive next.processes.items
        last_alive = record { front = old.processes.items; process = f.child; is = f.table }

        used : IsWithin (usage_of n) (usage_sum u (usage_to_fork P))
        used = let a = begun_usage in let b = f.used in let w = used_all in record {
          living = omega (arith, a.living, b.living, w.living);
          actors = omega (arith, a.actors, b.actors, w.actors);
          caches = omega (arith, a.caches, b.caches, w.caches);
          regions = omega (arith, a.regions, b.regions, w.regions);
          pages = omega (arith, a.pages, b.pages, w.pages);
        }

      -- it is forked
      pub forked : (next : Mix Manager) (now : X) → IsInherited M G before mid old.processes.items p (Ok tt) now next → MixCall M G before old (commands.Fork of) (Ok (replies.Process (record { 0 = length next.processes.items }))) now next
      forked next now f = record {
        can = f.can;
        made = omega (arith, st.made, f.made);
        rises = f.rises;
        rose = f.rose;
        is = record { step = forks next now f.rises f.can f.segments (let w = used next now (Ok tt) f in record { actors = w.actors; caches = w.caches; regions = w.regions }) (length next.processes.items) many seen (segments_of (M.held now)) refl; has = had G next (M.held now) (M.page_bytes now) f.can; segments = f.segments };
      }
        where
          child_same : process_seen k p ≡ P
          child_same = ap (λ (x : Machine). process_seen x p) st.starts.machine

          seen : processes_seen (G.machine next.gmi (M.held now)) next.processes.items next.images.items ≡ record s { processes = s.processes ++ Some P ∷ [] }
          seen = f.inherits
              ∙ (λ i. put_at (processes_seen (st.starts.machine i) (st.starts.table i) (st.images i).items) (length old.processes.items) (child_same i))
              ∙ (λ i. record s { processes = set (map_snoc (option_map (process_seen m)) old.processes.items (Some st.starts.process) i) (length old.processes.items) (Some P) })
              ∙ (λ i. record s { processes = set_last s.processes (Some (process_seen m st.starts.process)) (Some P) (length old.processes.items) (sym (length-map old.processes.items (option_map (process_seen m)))) i })

          many : length next.processes.items ≡ length s.processes + 1
          many = ap (λ (xs : List (Option Process)). length xs) f.table ∙ length-append old.processes.items (Some f.child ∷ []) ∙ ap (λ (x : ℕ). x + 1) (sym (length-map old.processes.items (option_map (process_seen m))))

      -- it was taken back
      pub unforked : (t : Trouble) (next : Mix Manager) (now : X) → IsInherited M G before mid old.processes.items p (Err t) now next
          → (result : Result ProcId Trouble) (new : Mix Manager) (after : X) → IsTakenBack M G now next t result after new → MixCall M G before old (commands.Fork of) (Err t) after new
      unforked t next now f result new after b = record {
        can = b.can;
        made = omega (arith, st.made, f.made, b.made);
        rises = counts_sum f.rises b.rises;
        rose = rise_then (M.counts before) (M.counts now) (M.counts after) f.rises b.rises f.rose b.rose;
        is = record { step = lacks new after (counts_sum f.rises b.rises) b.can (b.segments ∙ f.segments) all t seen (lack_still u (usage_to_fork P) (usage_of k) (usage_of_parts p.parts.items) less t f.inherits) (segments_of (M.held after)) refl; has = had G new (M.held after) (M.page_bytes after) b.can; segments = b.segments ∙ f.segments };
      }
        where
          items : new.processes.items ≡ old.processes.items
          items = (one_end new.processes.items old.processes.items (Some b.process) (Some f.child) (sym b.table ∙ f.table)).0

          seen : processes_seen (G.machine new.gmi (M.held after)) new.processes.items new.images.items ≡ s
          seen = ap (λ (x : Vec Image Global). processes_seen (G.machine new.gmi (M.held after)) new.processes.items x.items) b.images
              ∙ b.seen
              ∙ (λ i. processes_seen (G.machine next.gmi (M.held now)) (items i) (f.images i).items)
              ∙ ap (λ (x : Vec Image Global). processes_seen (G.machine next.gmi (M.held now)) old.processes.items x.items) st.images
              ∙ seen_kept m (G.machine next.gmi (M.held now)) old.processes.items old.images.items can.tied (λ c d e. f.kept c d (kept c d e)) (f.can.tied.page ∙ sym can.tied.page)

          less : IsWithin (usage_sum (usage_of k) (usage_of_parts p.parts.items)) (usage_sum u (usage_to_fork P))
          less = let a = begun_usage in let w = used_all in record {
            living = omega (arith, a.living, w.living);
            actors = omega (arith, a.actors, w.actors);
            caches = omega (arith, a.caches, w.caches);
            regions = omega (arith, a.regions, w.regions);
            pages = omega (arith, a.pages, w.pages);
          }

          all : RaisedBy (usage_to_fork P) u (usage_of (G.machine new.gmi (M.held after)))
          all = let w = used next now (Err t) f in record { actors = omega (arith, w.actors, b.alike.actors); caches = omega (arith, w.caches, b.alike.caches); regions = omega (arith, w.regions, b.alike.regions) }

      -- what was made is whole, or taken back
      pub finished : (made : Result (Unit {0}) Trouble) (next : Mix Manager) (now : X) → IsInherited M G before mid old.processes.items p made now next
          → (result : Result ProcId Trouble) (new : Mix Manager) (after : X) → IsMadeOrTakenBack M G now next made result after new
          → MixCall M G before old (commands.Fork of) (answer_by (λ (x : ProcId). replies.Process x) result) after new
      finished (Ok u) next now f result new after b =
          subst (λ (r : Result ProcId Trouble). MixCall M G before old (commands.Fork of) (answer_by (λ (x : ProcId). replies.Process x) r) after new) (sym b.is)
          (subst (λ (x : Mix Manager). MixCall M G before old (commands.Fork of) (Ok (replies.Process (record { 0 = length next.processes.items }))) after x) (sym b.same)
          (subst (λ (y : X). MixCall M G before old (commands.Fork of) (Ok (replies.Process (record { 0 = length next.processes.items }))) y next) (sym b.mapper) (forked next now f)))
      finished (Err t) next now f result new after b =
          subst (λ (r : Result ProcId Trouble). MixCall M G before old (commands.Fork of) (answer_by (λ (x : ProcId). replies.Process x) r) after new) (sym b.is) (unforked t next now f result new after b)
