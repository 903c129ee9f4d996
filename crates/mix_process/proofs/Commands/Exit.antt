-- How a process ends.
use Rattle.std.proofs.Common.{◌≡◌, ◌≢◌, ◌⊎◌, inl, inr, ◌==◌, ℕ, zero, suc, ◌+◌, ◌-◌, ◌*◌, ◌^◌, ◌≤◌, Bool, true, false, cond, List, [], ◌∷◌, ◌++◌, length, set, take, drop, Option, Some, None, refl, sym, ap, subst, ◌∙◌, arith}
use Rattle.std.specs.Prelude.{Ok, Err, option_map, slice_get}
use Rattle.std.proofs.lemmas.Bool.{cases_eq}
use Rattle.std.proofs.lemmas.Bool.Decides.{nat_tests}
use Rattle.std.proofs.lemmas.List.{length-set, map-set}
use Rattle.std.proofs.lemmas.Option.{slice_get_within}
use Rattle.vm_ids.specs.declared.command.Command.TheVariants as vm_commands
use Rattle.vm_ids.specs.declared.command.MixCommand.TheVariants as commands
use Rattle.vm_ids.specs.declared.refusal.Refusal.TheVariants as refusals
use Rattle.vm_ids.specs.declared.reply.Reply.TheVariants as replies
use Rattle.vm_ids.specs.declared.reply.Trouble.TheVariants as troubles
use Rattle.vm_model.proofs.Parts.Lists.{get_set_same, numbered-map, numbered_place}
use Rattle.vm_model.proofs.Parts.ListParts.{numbered_set_other}
use Rattle.gmi_calls.proofs.Still.{without_mapper}
use Rattle.interface_callers.proofs.Words.{Answer, CallDone, GhostsOfGmi, GhostsOfMapper, Held, Machine, MapperCall, ProcId, RaisesMade, Segments, live_pages, meanings_of, numbered, segments_of}
use Rattle.interface_callers.proofs.Lists.{number_at}
use Rattle.interface_callers.proofs.Blanks.{as_untold}
use Rattle.interface_callers.proofs.Rows.{IsDone}
use Rattle.mix_process.specs.ProcessMachine as model
use Rattle.mix_process.specs.ProcessMachine.{ProcessMachine, may_write, process_of}
use Rattle.mix_process.specs.Answering as mix
use Rattle.mix_process.specs.Calling.{MixCall}
use Rattle.mix_process.specs.Outcome.{RaisedBy, no_usage, usage_of}
use Rattle.mix_process.specs.Stepping.{StepAt}
use Rattle.mix_process.specs.Inner.{AreApart, AreCleared, AreOwn, IsEnded, own_pages, spare_of, with_extra}
use Rattle.mix_process.specs.Seen.{cache_pages, pages_in, process_seen, processes_seen, same_area, state_of}
use Rattle.mix_process.specs.Tying.{AreAble, AreTied, CanCall, IsRun, none_spare}
use Rattle.mix_process.specs.declared.area.Area.{Area}
use Rattle.mix_process.specs.declared.area.Area.TheVariants.{Data, Stack, Text}
use Rattle.mix_process.specs.declared.mix.Image.{Image}
use Rattle.mix_process.specs.declared.mix.Mix.{Mix}
use Rattle.mix_process.specs.declared.process.Part.{Part}
use Rattle.mix_process.specs.declared.process.Process.{Process}
use Rattle.mix_process.proofs.Calling.CallAgain.{AreRenamed, able_after, ended, is_call, own_caches, parts_apart, respared, sync_after, tied_ended, tied_renamed}
use Rattle.mix_process.proofs.Ties.Clearing.{own_kept}
use Rattle.mix_process.proofs.Ties.Having.{had}
use Rattle.mix_process.proofs.Calling.OneCall.{none_here, refused_called}
use Rattle.mix_process.proofs.Calling.ActorExits.{living_exited}
use Rattle.mix_process.proofs.Calling.UntoldSteps.{filled_put, filled_up, like_filled, seen_filled, step_filled}

-- How many pages of its own a process has at most

own_one : (a : Area) (n : ℕ) → cond (may_write a) n 0 ≤ cond (same_area a Data) n 0 + cond (same_area a Stack) n 0
own_one Text n = omega arith
own_one Data n = omega arith
own_one Stack n = omega arith

own_few : (parts : List Part) → own_pages parts ≤ pages_in Data parts + pages_in Stack parts
own_few [] = omega arith
own_few (p ∷ ps) = omega (arith, own_one p.area p.pages, own_few ps)

-- Numbers with one more

extra_by : (process : Process) (processes : ℕ → Option Process) (n : ℕ) (b : Bool) → (n == 0) ≡ b → n ≢ 0 → processes n ≡ cond b (Some process) (processes n)
extra_by process processes n true e other = absurd (other (grind (arith, nat_tests)))
extra_by process processes n false e other = refl

pub extra_other : (process : Process) (processes : ℕ → Option Process) (n : ℕ) → n ≢ 0 → processes n ≡ with_extra process processes n
extra_other process processes n other = extra_by process processes n (n == 0) refl other

small_rise : (live live' before now : ℕ) → live' ≡ live → now ≤ before + 8 * (0 + (live' - live)) + 8 → now ≤ before + 8
small_rise live live' before now e made = omega (arith, e, made)

module _ {Manager X Chooser : Type 0} (M : GhostsOfMapper X) (G : GhostsOfGmi Manager X Chooser) (old : Mix Manager) (mapper : X) (process : Process)
    (can : AreAble G old.gmi old.images.items (M.held mapper) (M.page_bytes mapper) (length old.processes.items) (with_extra process (numbered old.processes.items)) none_spare)
    (a : Answer) (gmi : Manager) (called : CallDone (meanings_of G) old.gmi (vm_commands.ExitActor process.actor) a gmi) where
  abbrev m : Machine
  m = G.machine old.gmi (M.held mapper)

  abbrev n : Machine
  n = G.machine gmi (M.held mapper)

  abbrev call : MapperCall M (meanings_of G) mapper old.gmi (vm_commands.ExitActor process.actor) a mapper gmi
  call = without_mapper M (meanings_of G) mapper old.gmi can.valid (vm_commands.ExitActor process.actor) a gmi called

  run : IsRun m process
  run = can.tied.run 0 process refl

  exits : IsDone a n (ended m process.actor.0)
  exits =
      let it = is_call M G old.gmi gmi mapper mapper (vm_commands.ExitActor process.actor) a old.images.items (length old.processes.items) (with_extra process (numbered old.processes.items)) none_spare can call in
      living_exited (segments_of (M.held mapper)) m (G.forest old.gmi (M.held mapper)) process.actor run.regions run.there a n it.rises it.is.outcome

  pub apart_then : AreApart process.parts.items
  apart_then = parts_apart m (with_extra process (numbered old.processes.items)) (numbered old.processes.items) old.images.items can.tied 0 process refl (λ k other. extra_other process (numbered old.processes.items) k other) refl

  pub own_then : AreOwn n process.parts.items
  own_then = subst (λ (x : Machine). AreOwn x process.parts.items) (sym exits.next)
      (λ j p e own. own_kept m (ended m process.actor.0) p refl (own_caches m (with_extra process (numbered old.processes.items)) (numbered old.processes.items) old.images.items can.tied 0 process refl (λ k other. extra_other process (numbered old.processes.items) k other) refl j p e own))

  pub able_then : AreAble G gmi old.images.items (M.held mapper) (M.page_bytes mapper) (length old.processes.items) (numbered old.processes.items) (spare_of process.parts.items)
  able_then =
      able_after M G old.gmi gmi mapper mapper (vm_commands.ExitActor process.actor) a old.images.items (length old.processes.items) (with_extra process (numbered old.processes.items)) none_spare can call
      old.images.items (length old.processes.items) (numbered old.processes.items) (spare_of process.parts.items)
      (omega (arith, can.few, ap (λ (x : Machine). length x.actors) exits.next, length-set m.actors (process.actor.0 - 1) None)) (omega (arith, can.most, ap (λ (x : Machine). length x.actors) exits.next, length-set m.actors (process.actor.0 - 1) None))
      (subst (λ (x : Machine). AreTied x (numbered old.processes.items) (spare_of process.parts.items) old.images.items) (sym exits.next)
      (tied_ended m (with_extra process (numbered old.processes.items)) (numbered old.processes.items) old.images.items can.tied 0 process refl (λ k other. extra_other process (numbered old.processes.items) k other) refl))
      (sync_after M G old.gmi gmi mapper mapper (vm_commands.ExitActor process.actor) a old.images.items (length old.processes.items) (with_extra process (numbered old.processes.items)) none_spare can call
      (λ i image e. ap (λ (x : Machine). cache_pages x image.cache.0) exits.next))

  rises_little : G.made gmi ≤ G.made old.gmi + 8
  rises_little = small_rise (live_pages m) (live_pages n) (G.made old.gmi) (G.made gmi) (ap live_pages exits.next)
      (subst (λ (b : Answer). RaisesMade m (vm_commands.ExitActor process.actor) b n (G.made old.gmi) (G.made gmi)) exits.done call.made)

  few_pages : own_pages process.parts.items ≤ 66560
  few_pages = omega (arith, own_few process.parts.items, run.small.data_pages, run.small.stack)

  -- the number that bounds the manager's counters lets the caches be destroyed
  pub made_then : G.made old.gmi ≤ 2 ^ 61 + 2 ^ 30 → G.made gmi + 16 * own_pages process.parts.items ≤ 2 ^ 62
  made_then h = omega (arith, h, rises_little, few_pages)

  pub is_ended : (after : X) (new : Mix Manager) → AreCleared M G mapper (record old { gmi = gmi }) process.parts.items [] after new → IsEnded M G mapper old after new
  is_ended after new c = record {
    able = subst (λ (x : Mix Manager). AreAble G new.gmi x.images.items (M.held after) (M.page_bytes after) (length x.processes.items) (numbered x.processes.items) none_spare) (sym c.same)
        (respared (numbered old.processes.items) (spare_of []) none_spare c.able (λ k s. absurd (cc s.2)) (λ k s. absurd s));
    same = c.same;
    seen = c.seen ∙ ap (λ (x : Machine). processes_seen x old.processes.items old.images.items) exits.next;
    made = omega (arith, c.made, rises_little, few_pages);
    alike = record {
      actors = c.alike.actors ∙ ap (λ (x : Machine). length x.actors) exits.next ∙ length-set m.actors (process.actor.0 - 1) None;
      caches = c.alike.caches ∙ ap (λ (x : Machine). length x.caches) exits.next;
      regions = c.alike.regions ∙ ap (λ (x : Machine). x.regions_made) exits.next;
    };
    rises = c.rises;
    rose = c.rose;
    segments = c.segments;
  }

-- A process is taken out of the table

take_front : {A : Type 0} (xs ys : List A) (n : ℕ) → n ≡ length xs → take n (xs ++ ys) ≡ xs
take_front [] ys zero e = refl
take_front [] ys (suc n) e = absurd (omega (arith, e))
take_front (x ∷ xs) ys zero e = absurd (omega (arith, e))
take_front (x ∷ xs) ys (suc n) e = ap (λ zs. x ∷ zs) (take_front xs ys n (omega (arith, e)))

-- what is written through a slice of a vector is in the vector
pub written_back : {A : Type 0} (items slice new : List A) (len k : ℕ) (v : A) → slice ≡ items → new ≡ set slice k v → len ≡ length items → take len (new ++ drop (length new) items) ≡ set items k v
written_back items slice new len k v same e many =
    take_front new (drop (length new) items) len (omega (arith, many, ap length e, ap length same, length-set slice k v)) ∙ e ∙ ap (λ xs. set xs k v) same

module _ (table : List (Option Process)) (k : ℕ) (p : Process) (there : numbered table k ≡ Some p) where
  abbrev pub left : List (Option Process)
  left = set table (k - 1) None

  place : (1 ≤ k) × (slice_get table (k - 1) ≡ Some (Some p))
  place = numbered_place table k p there

  left_none : numbered left k ≡ None
  left_none = number_at left k None place.0 (get_set_same table (k - 1) None (slice_get_within table (k - 1) (Some p) place.1))

  left_was : (n : ℕ) (q : Process) → numbered left n ≡ Some q → (n ≢ k) × (numbered table n ≡ Some q)
  left_was n q e = elim (cases_eq n k) [
    | inl same ↦ absurd (let wrong : Some q ≡ None = sym e ∙ ap (numbered left) same ∙ left_none in cc wrong)
    | inr other ↦ (other, sym (numbered_set_other table k n None place.0 other) ∙ e)
  ]

  abbrev to : ℕ → ℕ
  to n = cond (n == 0) k n

  abbrev others : ℕ → Option Process
  others = with_extra p (numbered left)

  to_is : (n : ℕ) (b : Bool) (q : Process) → cond b (Some p) (numbered left n) ≡ Some q → numbered table (cond b k n) ≡ Some q
  to_is n true q e = there ∙ e
  to_is n false q e = (left_was n q e).1

  to_apart : (n j : ℕ) (b c : Bool) (q r : Process) → (n == 0) ≡ b → (j == 0) ≡ c → cond b (Some p) (numbered left n) ≡ Some q → cond c (Some p) (numbered left j) ≡ Some r → cond b k n ≡ cond c k j → n ≡ j
  to_apart n j true true q r zn zj e f same = let a : n ≡ 0 = grind (arith, nat_tests) in let d : j ≡ 0 = grind (arith, nat_tests) in a ∙ sym d
  to_apart n j true false q r zn zj e f same = absurd ((left_was j r f).0 (sym same))
  to_apart n j false true q r zn zj e f same = absurd ((left_was n q e).0 same)
  to_apart n j false false q r zn zj e f same = same

  nonzero : (n : ℕ) → 1 ≤ n → (n == 0) ≡ false
  nonzero n h = grind (arith, nat_tests)

  came_back : (n : ℕ) (q : Process) → numbered table n ≡ Some q → (n ≡ k) ⊎ (n ≢ k) → (j : ℕ) × (others j ≡ Some q) × (to j ≡ n)
  came_back n q e (inl same) = (0, sym there ∙ ap (numbered table) (sym same) ∙ e, sym same)
  came_back n q e (inr other) =
      let some : 1 ≤ n = (numbered_place table n q e).0 in
      (n, ap (λ (b : Bool). cond b (Some p) (numbered left n)) (nonzero n some) ∙ numbered_set_other table k n None place.0 other ∙ e, ap (λ (b : Bool). cond b k n) (nonzero n some))

  pub taken_out : AreRenamed (numbered table) others
  taken_out = record {
    to = to;
    is = λ n q e. to_is n (n == 0) q e;
    apart = λ n j q r e f same. to_apart n j (n == 0) (j == 0) q r refl refl e f same;
    back = λ n q e. came_back n q e (cases_eq n k);
  }

pub renamed_able : {Manager X Chooser : Type 0} {G : GhostsOfGmi Manager X Chooser} {gmi : Manager} {images : List Image} {told : Option Held} {page : Option ℕ} (made made' : ℕ) (processes others : ℕ → Option Process)
    → AreRenamed processes others → made' ≤ made → AreAble G gmi images told page made processes none_spare → AreAble G gmi images told page made' others none_spare
renamed_able {Manager} {X} {Chooser} {G} {gmi} {images} {told} made made' processes others r fewer can = record {
  valid = can.valid;
  unlimited = can.unlimited;
  fits = can.fits;
  live = can.live;
  living = can.living;
  few = omega (arith, can.few, fewer);
  most = can.most;
  tied = tied_renamed processes others r (G.machine gmi told) none_spare images can.tied;
  synchronised = can.synchronised;
  blank = can.blank;
}

-- The exit

module _ (x : ProcessMachine) (of : ℕ) where
  exit_row : (o : Option model.Process) → process_of x of ≡ o → mix.exit_of x of ≡ mix.with_some o refusals.NoProcess x (λ p. mix.reply replies.Done (mix.put_process x of None))
  unfolding mix.exit_of
  exit_row o e = ap (λ (o : Option model.Process). mix.with_some o refusals.NoProcess x (λ p. mix.reply replies.Done (mix.put_process x of None))) e

  exit_none : process_of x of ≡ None → mix.exit_of x of ≡ mix.refuse x refusals.NoProcess
  unfolding mix.with_some
  exit_none e = exit_row None e

  exit_some : (p : model.Process) → process_of x of ≡ Some p → mix.exit_of x of ≡ mix.reply replies.Done (mix.put_process x of None)
  unfolding mix.with_some
  exit_some p e = exit_row (Some p) e

module _ {Manager X Chooser : Type 0} (M : GhostsOfMapper X) (G : GhostsOfGmi Manager X Chooser) (old : Mix Manager) (mapper : X) (can : CanCall G old (M.held mapper) (M.page_bytes mapper)) (of : ProcId) where
  abbrev s : ProcessMachine
  s = processes_seen (G.machine old.gmi (M.held mapper)) old.processes.items old.images.items

  pub exit_nobody : numbered old.processes.items of.0 ≡ None → MixCall M G mapper old (commands.Exit of) (Err (troubles.Refused refusals.NoProcess)) mapper old
  exit_nobody none = refused_called M G old mapper can (commands.Exit of) (Err (troubles.Refused refusals.NoProcess)) (λ x like h. exit_none x of.0 (like.nobody of.0 (none_here M G old mapper can of.0 none)))

  -- what the process's end needs
  pub end_able : (p : Process) → numbered old.processes.items of.0 ≡ Some p → (items : List (Option Process)) → items ≡ set old.processes.items (of.0 - 1) None
      → AreAble G old.gmi old.images.items (M.held mapper) (M.page_bytes mapper) (length items) (with_extra p (numbered items)) none_spare
  end_able p there items is = subst (λ (xs : List (Option Process)). AreAble G old.gmi old.images.items (M.held mapper) (M.page_bytes mapper) (length xs) (with_extra p (numbered xs)) none_spare) (sym is)
      (renamed_able (length old.processes.items) (length (set old.processes.items (of.0 - 1) None)) (numbered old.processes.items) (with_extra p (numbered (set old.processes.items (of.0 - 1) None))) (taken_out old.processes.items of.0 p there) (omega (arith, length-set old.processes.items (of.0 - 1) None)) can)

  pub exited : (p : Process) → numbered old.processes.items of.0 ≡ Some p → (between : Mix Manager) → between.gmi ≡ old.gmi → between.images ≡ old.images → between.processes.items ≡ set old.processes.items (of.0 - 1) None
      → (after : X) (new : Mix Manager) → IsEnded M G mapper between after new → MixCall M G mapper old (commands.Exit of) (Ok replies.Done) after new
  exited p there between gmi images items after new e = record {
    can = e.able;
    made = omega (arith, e.made, ap G.made gmi);
    rises = e.rises;
    rose = e.rose;
    is = record { step = go (segments_of (M.held after)) refl; has = had G new (M.held after) (M.page_bytes after) e.able; segments = e.segments };
  }
    where
      n : Machine
      n = G.machine new.gmi (M.held after)

      seen : processes_seen (G.machine new.gmi (M.held after)) new.processes.items new.images.items ≡ mix.put_process s of.0 None
      seen =
          ap (λ (x : Mix Manager). processes_seen (G.machine new.gmi (M.held after)) x.processes.items x.images.items) e.same
          ∙ e.seen
          ∙ (λ i. processes_seen (G.machine (gmi i) (M.held mapper)) (items i) (images i).items)
          ∙ (λ i. record s { processes = map-set (option_map (process_seen (G.machine old.gmi (M.held mapper)))) old.processes.items (of.0 - 1) None i })

      living : process_of s of.0 ≡ Some (process_seen (G.machine old.gmi (M.held mapper)) p)
      living = numbered-map (process_seen (G.machine old.gmi (M.held mapper))) old.processes.items of.0 ∙ ap (option_map (process_seen (G.machine old.gmi (M.held mapper)))) there

      before_is : G.machine between.gmi (M.held mapper) ≡ G.machine old.gmi (M.held mapper)
      before_is = ap (λ (g : Manager). G.machine g (M.held mapper)) gmi

      raised : RaisedBy no_usage (usage_of (G.machine old.gmi (M.held mapper))) (usage_of n)
      raised = record {
        actors = omega (arith, e.alike.actors, ap (λ (x : Machine). length x.actors) before_is);
        caches = omega (arith, e.alike.caches, ap (λ (x : Machine). length x.caches) before_is);
        regions = omega (arith, e.alike.regions, ap (λ (x : Machine). x.regions_made) before_is);
      }

      go : (told : Option Segments) → segments_of (M.held after) ≡ told → StepAt told (state_of G old (M.held mapper)) (commands.Exit of) (Ok replies.Done) e.rises (state_of G new (M.held after))
      go None untold = step_filled (segments_of (M.held mapper)) (segments_of (M.held after)) s (processes_seen n new.processes.items new.images.items) _ _ (commands.Exit of) (Ok replies.Done) e.rises can.tied.page
          (seen_filled (G.machine old.gmi (M.held mapper)) old.processes.items old.images.items (as_untold (M.held mapper) (sym e.segments ∙ untold) can.blank))
          (seen_filled n new.processes.items new.images.items (as_untold (M.held after) untold e.able.blank))
          (λ h. (let there = (like_filled s).somebody of.0 (process_seen (G.machine old.gmi (M.held mapper)) p) living in record {
            outcome = exit_some (filled_up s) of.0 there.0 there.1 ∙ ap (mix.reply replies.Done) (sym (ap filled_up seen ∙ filled_put s of.0 None));
            raised = raised;
          }))
      go (Some h) told = record {
        outcome = exit_some s of.0 (process_seen (G.machine old.gmi (M.held mapper)) p) living ∙ ap (λ (x : ProcessMachine). mix.reply replies.Done x) (sym seen);
        raised = raised;
      }
