-- How the data of a process grow.
use Rattle.std.proofs.Common.{◌≡◌, ℕ, ◌+◌, ◌-◌, ◌≤◌, ◌<◌, Bool, true, false, List, [], ◌∷◌, ◌++◌, length, map, replicate, Option, Some, None, refl, sym, ap, subst, ◌∙◌, arith}
use Rattle.std.specs.Prelude.{Ok, Err, Result, nat_lt, option_map, slice_get}
use Rattle.std.proofs.lemmas.Bool.Decides.{nat_tests}
use Rattle.std.proofs.lemmas.List.{length-map, length-replicate, map-append}
use Rattle.vm_ids.specs.declared.command.MixCommand.TheVariants as commands
use Rattle.vm_ids.specs.declared.refusal.Refusal.TheVariants as refusals
use Rattle.vm_ids.specs.declared.reply.Reply.TheVariants as replies
use Rattle.vm_ids.specs.declared.reply.Trouble.TheVariants as troubles
use Rattle.vm_model.proofs.Parts.Lists.{numbered-map}
use Rattle.interface_callers.proofs.Words.{GhostsOfGmi, GhostsOfMapper, IsNotRefused, Machine, MapperCounts, Page, ProcId, Segments, Trouble, done_by, numbered, segments_of, zero_page}
use Rattle.interface_callers.proofs.Blanks.{as_untold}
use Rattle.interface_callers.proofs.Lists.{map-replicate}
use Rattle.mix_process.specs.Adding.{Adds, IsAdded, MayAdd, fresh_page, put_at, with_more}
use Rattle.mix_process.specs.Answering as mix
use Rattle.mix_process.specs.Answering.{grow_of, grown_by, put_process}
use Rattle.mix_process.specs.Calling.{MixCall}
use Rattle.mix_process.specs.Outcome.{Outcome, RaisedBy, Usage, usage_of, usage_to_grow}
use Rattle.mix_process.specs.ProcessMachine as model
use Rattle.mix_process.specs.ProcessMachine.{ProcessMachine, process_of}
use Rattle.mix_process.specs.Seen.{pages_in, process_seen, processes_seen, state_of}
use Rattle.mix_process.specs.Stepping.{StepAt, each_of}
use Rattle.mix_process.specs.Tying.{CanCall, IsRun}
use Rattle.mix_process.specs.Use.{IsLack}
use Rattle.mix_process.specs.declared.area.Area.TheVariants.{Data}
use Rattle.mix_process.specs.declared.area.TheConstants.{MOST_DATA}
use Rattle.mix_process.specs.declared.mix.Mix.{Mix}
use Rattle.mix_process.specs.declared.process.Process.{Process}
use Rattle.mix_process.proofs.Ties.Having.{had}
use Rattle.mix_process.proofs.Adding.PartMapped.{at_place}
use Rattle.mix_process.proofs.Reading.Seeing.{seen_length}
use Rattle.mix_process.proofs.Calling.OneCall.{none_here, refused_called}
use Rattle.mix_process.proofs.Calling.UntoldSteps.{filled_put, filled_up, seen_filled, step_filled, zeros}

-- The row

module _ (s : ProcessMachine) (of pages : ℕ) where
  abbrev pub grown : model.Process → mix.Answered
  grown p = mix.reply replies.Done (put_process s of (Some (grown_by s.page_bytes pages p)))

  grow_row : (o : Option model.Process) → process_of s of ≡ o → grow_of s of pages ≡ mix.with_some o refusals.NoProcess s (λ p. mix.unless (nat_lt MOST_DATA (length p.data_pages + pages)) refusals.TooLarge s (grown p))
  unfolding grow_of
  grow_row o e = ap (λ (o : Option model.Process). mix.with_some o refusals.NoProcess s (λ p. mix.unless (nat_lt MOST_DATA (length p.data_pages + pages)) refusals.TooLarge s (grown p))) e

  grow_none : process_of s of ≡ None → grow_of s of pages ≡ mix.refuse s refusals.NoProcess
  unfolding mix.with_some
  grow_none e = grow_row None e

  by_size : (p : model.Process) (b : Bool) → process_of s of ≡ Some p → nat_lt MOST_DATA (length p.data_pages + pages) ≡ b → grow_of s of pages ≡ mix.unless b refusals.TooLarge s (grown p)
  unfolding mix.with_some
  by_size p b e f = grow_row (Some p) e ∙ ap (λ (b : Bool). mix.unless b refusals.TooLarge s (grown p)) f

  grow_large : (p : model.Process) → process_of s of ≡ Some p → MOST_DATA < length p.data_pages + pages → grow_of s of pages ≡ mix.refuse s refusals.TooLarge
  unfolding mix.unless
  grow_large p e many = by_size p true e (grind (arith, nat_tests))

  pub grow_done : (p : model.Process) → process_of s of ≡ Some p → length p.data_pages + pages ≤ MOST_DATA → grow_of s of pages ≡ grown p
  unfolding mix.unless
  grow_done p e few = by_size p false e (grind (arith, nat_tests))

-- What a growth leads to: the process has its pages, or all stays for a lack.
abbrev pub GrowsTo : ProcessMachine → Usage → ℕ → ℕ → model.Process → Result (Unit {0}) Trouble → ProcessMachine → Type 0
GrowsTo s used of pages p (Ok u) next = next ≡ put_process s of (Some (grown_by s.page_bytes pages p))
GrowsTo s used of pages p (Err t) next = (next ≡ s) × IsLack used (usage_to_grow pages) t

goes_on : (a : mix.Answered) (r : _) (next : ProcessMachine) → a ≡ mix.reply r next → IsNotRefused a.answer
goes_on a r next e = subst (λ (x : mix.Answered). IsNotRefused x.answer) (sym e) tt

pub grow_outcome : (s : ProcessMachine) (u : Usage) (of : ProcId) (pages : ℕ) (p : model.Process) → process_of s of.0 ≡ Some p → length p.data_pages + pages ≤ MOST_DATA → (h : Segments) (rises : MapperCounts) (result : Result (Unit {0}) Trouble) (next : ProcessMachine)
    → GrowsTo s u of.0 pages p result next → Outcome s u (commands.Grow of pages) h (done_by result) next rises
grow_outcome s u of pages p there few h rises (Ok v) next g = grow_done s of.0 pages p there few ∙ ap (mix.reply replies.Done) (sym g)
grow_outcome s u of pages p there few h rises (Err troubles.Memory) next g = (g.0, tt, goes_on _ replies.Done _ (grow_done s of.0 pages p there few))
grow_outcome s u of pages p there few h rises (Err (troubles.Refused refusals.TooMany)) next g = (g.0, tt, goes_on _ replies.Done _ (grow_done s of.0 pages p there few), g.1)
grow_outcome s u of pages p there few h rises (Err t) next g = absurd g.1

-- The call

module _ {Manager X Chooser : Type 0} (M : GhostsOfMapper X) (G : GhostsOfGmi Manager X Chooser) (old : Mix Manager) (mapper : X) (can : CanCall G old (M.held mapper) (M.page_bytes mapper)) (of : ProcId) (pages : ℕ) where
  abbrev m : Machine
  m = G.machine old.gmi (M.held mapper)

  abbrev s : ProcessMachine
  s = processes_seen m old.processes.items old.images.items

  pub grow_nobody : numbered old.processes.items of.0 ≡ None → MixCall M G mapper old (commands.Grow of pages) (Err (troubles.Refused refusals.NoProcess)) mapper old
  grow_nobody none = refused_called M G old mapper can (commands.Grow of pages) (Err (troubles.Refused refusals.NoProcess)) (λ x like h. grow_none x of.0 pages (like.nobody of.0 (none_here M G old mapper can of.0 none)))

  module _ (place : ℕ) (at : of.0 ≡ place + 1) (p : Process) (there : slice_get old.processes.items place ≡ Some (Some p)) where
    alive : numbered old.processes.items of.0 ≡ Some p
    alive = ap (numbered old.processes.items) at ∙ at_place old.processes.items place p there

    run : IsRun m p
    run = can.tied.run of.0 p alive

    seen_there : process_of s of.0 ≡ Some (process_seen m p)
    seen_there = numbered-map (process_seen m) old.processes.items of.0 ∙ ap (option_map (process_seen m)) alive

    many : length (process_seen m p).data_pages ≡ pages_in Data p.parts.items
    many = seen_length m Data p.parts.items run.parts

    -- what its size needs
    pub data_few : pages_in Data p.parts.items ≤ MOST_DATA
    data_few = run.small.data_pages

    pub grow_too_large : MOST_DATA < pages_in Data p.parts.items + pages → MixCall M G mapper old (commands.Grow of pages) (Err (troubles.Refused refusals.TooLarge)) mapper old
    grow_too_large large = refused_called M G old mapper can (commands.Grow of pages) (Err (troubles.Refused refusals.TooLarge)) (λ x like h. (let q = like.somebody of.0 (process_seen m p) seen_there in grow_large x of.0 pages q.0 q.1 (omega (arith, large, many, q.2))))

    module _ (some : 1 ≤ pages) (few : pages_in Data p.parts.items + pages ≤ MOST_DATA) where
      pub may_grow : MayAdd m old.processes.items place p Data pages None
      may_grow = record {
        room = record { there = there; some = some; few = few; first = λ other. absurd (other refl) };
        own = refl;
        source_there = tt;
      }

      module _ (result : Result (Unit {0}) Trouble) (after : X) (new : Mix Manager) (a : IsAdded M G mapper old place p Data pages None result after new) where
        abbrev n : Machine
        n = G.machine new.gmi (M.held after)

        abbrev next : ProcessMachine
        next = processes_seen n new.processes.items new.images.items

        number : place ≡ of.0 - 1
        number = omega (arith, at)

        grows : (h : Segments) (r : Result (Unit {0}) Trouble) → Adds m n (Some h) old place p Data pages None r new → GrowsTo s (usage_of m) of.0 pages (process_seen m p) r next
        grows h (Ok u) adds = adds.seen
            ∙ ap (λ (k : ℕ). put_at s k (with_more Data (replicate pages (fresh_page (Some h) m.page_bytes)) (process_seen m p))) number
            ∙ ap (λ (n : ℕ). put_process s of.0 (Some (record (grown_by m.page_bytes pages (process_seen m p)) { pieces = (process_seen m p).pieces ++ n ∷ [] }))) (length-replicate {A = Page} pages (zero_page m.page_bytes))
        grows h (Err t) adds = (adds.seen, adds.lack)

        raised : RaisedBy (usage_to_grow pages) (usage_of m) (usage_of n)
        raised = record { actors = a.used.actors; caches = a.used.caches; regions = a.used.regions }

        filled_is : process_of (filled_up s) of.0 ≡ Some (each_of zeros (process_seen m p))
        filled_is = numbered-map (each_of zeros) s.processes of.0 ∙ ap (option_map (each_of zeros)) seen_there

        -- with zeros in place of the missing bytes
        more_filled : each_of zeros (with_more Data (replicate pages (fresh_page None m.page_bytes)) (process_seen m p)) ≡ grown_by m.page_bytes pages (each_of zeros (process_seen m p))
        more_filled = λ i. record (each_of zeros (process_seen m p)) {
          data_pages = (map-append zeros (process_seen m p).data_pages (replicate pages []) ∙ ap (λ (xs : List Page). map zeros (process_seen m p).data_pages ++ xs) (map-replicate zeros pages [] ∙ ap (λ (b : ℕ). replicate pages (zero_page b)) (sym can.tied.page))) i;
          pieces = (process_seen m p).pieces ++ length-replicate {A = Page} pages [] i ∷ [];
        }

        grows_filled : (r : Result (Unit {0}) Trouble) → Adds m n None old place p Data pages None r new → GrowsTo (filled_up s) (usage_of m) of.0 pages (each_of zeros (process_seen m p)) r (filled_up next)
        grows_filled (Ok u) adds =
            ap filled_up (adds.seen ∙ ap (λ (k : ℕ). put_at s k (with_more Data (replicate pages (fresh_page None m.page_bytes)) (process_seen m p))) number)
            ∙ filled_put s of.0 (Some (with_more Data (replicate pages (fresh_page None m.page_bytes)) (process_seen m p)))
            ∙ ap (λ (q : model.Process). put_process (filled_up s) of.0 (Some q)) more_filled
        grows_filled (Err t) adds = (ap filled_up adds.seen, adds.lack)

        step : (told : Option Segments) → segments_of (M.held after) ≡ told → Adds m n told old place p Data pages None result new → StepAt told (state_of G old (M.held mapper)) (commands.Grow of pages) (done_by result) a.rises (state_of G new (M.held after))
        step None untold adds = step_filled (segments_of (M.held mapper)) (segments_of (M.held after)) s next (usage_of m) (usage_of n) (commands.Grow of pages) (done_by result) a.rises can.tied.page
            (seen_filled m old.processes.items old.images.items (as_untold (M.held mapper) (sym a.segments ∙ untold) can.blank))
            (seen_filled n new.processes.items new.images.items (as_untold (M.held after) untold a.can.blank))
            (λ h. record {
              outcome = grow_outcome (filled_up s) (usage_of m) of pages (each_of zeros (process_seen m p)) filled_is (omega (arith, few, many, length-map (process_seen m p).data_pages zeros)) h a.rises result (filled_up next) (grows_filled result adds);
              raised = raised;
            })
        step (Some h) told adds = record {
          outcome = grow_outcome s (usage_of m) of pages (process_seen m p) seen_there (omega (arith, few, many)) h a.rises result next (grows h result adds);
          raised = raised;
        }

        pub grew : MixCall M G mapper old (commands.Grow of pages) (done_by result) after new
        grew = record {
          can = a.can;
          made = omega (arith, a.made, few);
          rises = a.rises;
          rose = a.rose;
          is = record {
            step = step (segments_of (M.held after)) refl (subst (λ (told : Option Segments). Adds m n told old place p Data pages None result new) (sym a.segments) a.adds);
            has = had G new (M.held after) (M.page_bytes after) a.can;
            segments = a.segments;
          };
        }
