-- What a run promises, from how its replay ends.
use Rattle.std.proofs.Common.{◌≡◌, ◌≤◌, ◌<◌, ◌+◌, ℕ, zero, suc, List, [], ◌∷◌, ◌++◌, length, Option, Some, None, refl, sym, ap, subst, ◌∙◌, append-nil, arith, inl, inr}
use Rattle.std.specs.Prelude.{◌⊎◌, ◌↔◌, All, map, IfOk, IfSome, IsSomeAnd}
use Rattle.std.specs.List.{AllByRecursion}
use Rattle.std.proofs.lemmas.List.{length-append}
use Rattle.std.proofs.lemmas.List.Sorted.{All-permutation}
use Rattle.vm_ids.specs.Counting.{MapperCounts, Rose, last_count}
use Rattle.vm_ids.specs.Held.{Held, Segments}
use Rattle.vm_ids.specs.declared.numbers.TheConstants.{PAGE}
use Rattle.vm_ids.specs.Forest.Nodes.{no_forest}
use Rattle.vm_model.specs.Answering.{is_mapped}
use Rattle.vm_model.specs.Asking.{IsWellFormed}
use Rattle.vm_model.specs.Events.{Stand, steps_of}
use Rattle.vm_model.specs.Laws.{IsFollowed}
use Rattle.vm_model.specs.Machine.{Machine, live_pages, living_actors, start}
use Rattle.vm_model.specs.PageForest.{PageForest}
use Rattle.vm_model.specs.Run.{Read, State, command_semantics}
use Rattle.vm_model.specs.Steps.{Chain, Semantics, Step, lines_answered, numbered_from}
use Rattle.vm_model.specs.declared.limits.TheConstants.{LIVE_PAGES, LIVING_ACTORS}
use Rattle.vm_model.proofs.WholeRuns.Chains.{runs_are_chains}
use Rattle.vm_model.proofs.WholeRuns.Runs.{runs_are_followed}
use Rattle.actor_script.specs.Forms.{command_of}
use Rattle.actor_script.proofs.WellFormed.{well_formed}
use Rattle.gmi_calls.specs.Calling.{Fits}
use Rattle.vm_ids.specs.declared.access.Parked.{Parked}
use Rattle.vm_port.specs.declared.traits.dispatcher.Dispatcher.{Ghosts as GhostsOfDispatcher}
use Rattle.vm_port.specs.declared.traits.mapper.Mapper.{Ghosts as GhostsOfMapper}
use Rattle.vm_port.specs.declared.traits.sink.Sink.{Ghosts as GhostsOfSink}
use Rattle.vm_port.specs.declared.traits.source.Source.{Ghosts as GhostsOfSource}
use Rattle.line_service.specs.Ending.{Ends, Ran, Told, Took}
use Rattle.line_service.specs.Serving.{answer_budget}
use Rattle.line_service.specs.Underway.{CanAnswer}
use Rattle.line_service.specs.declared.service.Service.{Ghosts as GhostsOfService}
use Rattle.line_service.specs.Going.{IsScript, Known, Scene, Writing}
use Rattle.line_service.specs.Script.{IsFront, lines_of, most_bytes}
use Rattle.line_service.specs.declared.ended.Ended.{Ended}
use Rattle.line_service.specs.declared.ended.Ended.TheVariants as ended
use Rattle.gmi_calls.specs.declared.gmi.Gmi.{Ghosts as GhostsOfGmi}
use Rattle.mix_process.specs.Tying.{IsBare}
use Rattle.transit_ipc.specs.Tying.{IsBare as IsBareForPorts}
use Rattle.seg_manager.specs.Calling.{beginning as segments_beginning}
use Rattle.seg_manager.specs.Tying.{IsBare as IsBareForSegments, noted_regions}
use Rattle.replay.specs.Ending.{CommandScene, EndsAs, EndsFrom, Outside, RunEnds, none_open, scene_at, scene_with, status_of}
use Rattle.flat_mm.specs.Manager.{IsValid, flat}
use Rattle.flat_mm.specs.Manager.{Manager as FramedManager}
use Rattle.replay.specs.Managing.{CanCall, CanCallFramed}
use Rattle.replay.specs.Replaying.{Parts, Replayed, outside_in}
use Rattle.replay.specs.declared.status.Status.{Status}
use Rattle.replay.specs.declared.asked.Asked.{Asked}
use Rattle.replay.specs.declared.asked.Size.{Size}
use Rattle.replay.specs.declared.status.Status.TheVariants as statuses

-- the page forest at the end

abbrev AreWellFormed : List Read → Type 0
AreWellFormed reads = AllByRecursion (λ (r : Read). IfOk r IsWellFormed) reads

pub lines_formed : (lines : List (List ℕ)) → AreWellFormed (map command_of lines)
lines_formed [] = tt
lines_formed (line ∷ lines) = (well_formed line, lines_formed lines)

-- a list begins with itself
front_all : {X : Type 0} (xs : List X) → IsFront xs xs
front_all xs = record { back = []; parts = sym (append-nil xs) }

-- a numbered line that is well formed
abbrev IsFormed : ℕ × Read → Type 0
IsFormed l = IfOk l.1 IsWellFormed

numbered_formed : (first : ℕ) (reads : List Read) → AreWellFormed reads → AllByRecursion IsFormed (numbered_from first reads)
numbered_formed first [] h = tt
numbered_formed first (r ∷ reads) h = (h.0, numbered_formed (first + 1) reads h.1)

by_place : {X : Type 0} (P : X → Type 0) (xs : List X) → AllByRecursion P xs → All P xs
by_place P [] h k d within = absurd (omega (arith, within))
by_place P (x ∷ xs) h zero d within = h.0
by_place P (x ∷ xs) h (suc k) d within = by_place P xs h.1 k d (omega (arith, within))

by_recursion : {X : Type 0} (P : X → Type 0) (xs : List X) → All P xs → AllByRecursion P xs
by_recursion P [] h = tt
by_recursion P (x ∷ xs) h = (h zero x (omega arith), by_recursion P xs (λ k d within. h (suc k) d (omega (arith, within))))

answered_formed : (steps : List (Step Read)) (rest : List (ℕ × Read)) → AllByRecursion IsFormed (lines_answered steps ++ rest) → AllByRecursion (λ (step : Step Read). IfOk step.read IsWellFormed) steps
answered_formed [] rest h = tt
answered_formed (step ∷ steps) rest h = (h.0, answered_formed steps rest h.1)

module _ (a : CommandScene) (frames page : ℕ) (some : 1 ≤ page) (told : Option Segments) (begins : a.state ≡ record { machine = start frames page; forest = Some no_forest; segments = told }) where
  -- a run over a script whose lines are well formed
  pub ran_followed : {W : Type 0} (Put : Writing W Read) (known : Known Read) (old now : W) (b : CommandScene) (last : Stand command_semantics) (script : List Read) → IsScript known script → AreWellFormed script
      → Ran command_semantics Put known (record { state = a.state; counts = a.counts; turns = a.turns; written = old }) (record { state = b.state; counts = b.counts; turns = b.turns; written = now }) last
      → IsSomeAnd b.state.forest (IsFollowed b.state.machine)
  ran_followed Put known old now b last script is h ran =
      let steps = steps_of ran.goes.events in
      let chain : Chain command_semantics a.state steps last.state = runs_are_chains a.state script ran.goes.events last (ran.goes.leads script is) in
      let order = ran.in_order script is in
      let all = by_recursion IsFormed _ (All-permutation IsFormed _ _ order.once (by_place IsFormed _ (numbered_formed 1 script h))) in
      let formed = answered_formed steps _ all in
      let followed : IsSomeAnd last.state.forest (IsFollowed last.state.machine) =
      runs_are_followed frames page told steps last.state some formed (subst (λ (s : State). Chain command_semantics s steps last.state) begins chain) in
      subst (λ (s : State). IsSomeAnd s.forest (IsFollowed s.machine)) ran.state_is followed

  pub ends_followed : (e : Ended) (b : CommandScene) (l k : Option (List ℕ)) → Ends e command_semantics command_of a b l k → IsSomeAnd b.state.forest (IsFollowed b.state.machine)
  ends_followed ended.Done b l k h = ran_followed _ _ a.written b.written b _ _ refl (lines_formed (lines_of h.script)) h.answered.ran
  ends_followed ended.SourceFault b l k h = ran_followed _ _ a.written b.written b _ _ (front_all _) (lines_formed _) h.2.answered.ran
  ends_followed ended.SinkFault b l k h = ran_followed _ _ a.written b.written b _ _ h.of_taken (lines_formed (lines_of h.script)) h.ran
  ends_followed ended.TooLong b l k h = ran_followed _ _ a.written b.written b _ _ (front_all _) (lines_formed _) h.2.answered.ran

-- the promise, from a replay that began with some machine and some forest, which were those of the
-- start
pub run_ends : (status : Status) (size : Size) (old now : Outside) (l k : Option (List ℕ)) (m last : Machine) (f forest : PageForest)
    → 1 ≤ size.page_bytes → m ≡ start size.frames size.page_bytes → f ≡ no_forest → EndsAs status command_semantics command_of (scene_with old m f) (scene_with now last forest) l k → RunEnds status size old now l k
run_ends status size old now l k m last f forest some machine_is forest_is ends =
    let begun = start size.frames size.page_bytes in
    let from : EndsAs status command_semantics command_of (scene_with old begun no_forest) (scene_with now last forest) l k =
    subst (λ (x : Machine). EndsAs status command_semantics command_of (scene_with old x no_forest) (scene_with now last forest) l k) machine_is (subst (λ (x : PageForest). EndsAs status command_semantics command_of (scene_with old m x) (scene_with now last forest) l k) forest_is ends) in
    record {
      last = last;
      forest = forest;
      ends = from;
      followed = ends_followed (scene_with old begun no_forest) size.frames size.page_bytes some old.segments refl from.0 (scene_with now last forest) l k from.2;
    }

-- the promise, from a replay that began in some state, which was the first
pub begun_at : (S : Semantics) (read : List ℕ → S.Read) {status : Status} {begun first : S.State} {counts : MapperCounts} {turns : Option (List (Option ℕ))} {written : Told} {b : Scene S Told} {l k : Told} → begun ≡ first
    → EndsAs status S read (record { state = begun; counts = counts; turns = turns; written = written }) b l k → EndsAs status S read (record { state = first; counts = counts; turns = turns; written = written }) b l k
begun_at S read {status} {begun} {first} {counts} {turns} {written} {b} {l} {k} begins ends = subst (λ (s : S.State). EndsAs status S read (record { state = s; counts = counts; turns = turns; written = written }) b l k) begins ends

-- where no segment is open, over a manager that begins
pub nothing_open : (frames : ℕ) (told : Option Segments) → segments_beginning (start frames PAGE) told ≡ record { references = none_open frames told; segments = told }
nothing_open frames None = refl
nothing_open frames (Some h) = refl

-- the mapper takes pages of the size that was asked for

pub fits_start : (told : Option ℕ) (frames bytes named : ℕ) (m : Machine) → IfSome told (λ n. n ≡ named) → named ≡ bytes → m ≡ start frames bytes → Fits told m
fits_start told frames bytes named m h same e = subst (Fits told) (sym e) (by told h)
  where
    by : (told : Option ℕ) → IfSome told (λ n. n ≡ named) → Fits told (start frames bytes)
    by None h = tt
    by (Some n) h = h ∙ same

pub live_start : (frames bytes : ℕ) (m : Machine) → m ≡ start frames bytes → live_pages m ≤ LIVE_PAGES
live_start frames bytes m e = subst (λ (x : Machine). live_pages x ≤ LIVE_PAGES) (sym e) (omega arith)

pub living_start : (frames bytes : ℕ) (m : Machine) → m ≡ start frames bytes → living_actors m ≤ LIVING_ACTORS
living_start frames bytes m e = subst (λ (x : Machine). living_actors x ≤ LIVING_ACTORS) (sym e) (omega arith)

-- what it takes to call a manager that began
pub can_call : {Manager Mapper Chooser : Type 0} (G : GhostsOfGmi Manager Mapper Chooser) (gmi : Manager) (told : Option Held) (page_bytes : Option ℕ) (frames bytes : ℕ)
    → G.valid gmi told → G.room gmi ≡ None → IfSome page_bytes (λ n. n ≡ bytes) → G.machine gmi told ≡ start frames bytes → CanCall G gmi told page_bytes
can_call G gmi told page_bytes frames bytes valid unlimited pages starts = record {
  valid = valid;
  unlimited = unlimited;
  fits = fits_start page_bytes frames bytes bytes (G.machine gmi told) pages refl starts;
  live = live_start frames bytes (G.machine gmi told) starts;
  living = living_start frames bytes (G.machine gmi told) starts;
}

-- and the one whose live pages have frames
pub can_call_framed : (gmi : FramedManager) (told : Option Held) (page_bytes : Option ℕ) (frames named : ℕ) → IsValid gmi told → IfSome page_bytes (λ n. n ≡ named) → named ≡ PAGE → flat.machine gmi told ≡ start frames PAGE → CanCallFramed gmi told page_bytes
can_call_framed gmi told page_bytes frames named valid pages same starts = record {
  valid = valid;
  fits = fits_start page_bytes frames PAGE named (flat.machine gmi told) pages same starts;
  live = live_start frames PAGE (flat.machine gmi told) starts;
}

-- what it takes to make processes over a manager that began
pub bare_start : {Manager Mapper Chooser : Type 0} (G : GhostsOfGmi Manager Mapper Chooser) (gmi : Manager) (told : Option Held) (page_bytes : Option ℕ) (frames named : ℕ)
    → G.valid gmi told → G.room gmi ≡ None → IfSome page_bytes (λ n. n ≡ named) → named ≡ PAGE → G.machine gmi told ≡ start frames PAGE → IsBare G gmi told page_bytes
bare_start G gmi told page_bytes frames named valid unlimited pages same starts = record {
  valid = valid;
  unlimited = unlimited;
  fits = fits_start page_bytes frames PAGE named (G.machine gmi told) pages same starts;
  page = ap (λ (m : Machine). m.page_bytes) starts;
  caches = ap (λ (m : Machine). m.caches) starts;
  actors = ap (λ (m : Machine). m.actors) starts;
}

-- and to make ports
pub bare_ports : {Manager Mapper Chooser : Type 0} (G : GhostsOfGmi Manager Mapper Chooser) (gmi : Manager) (told : Option Held) (page_bytes : Option ℕ) (frames named : ℕ)
    → G.valid gmi told → G.room gmi ≡ None → IfSome page_bytes (λ n. n ≡ named) → named ≡ PAGE → G.machine gmi told ≡ start frames PAGE → IsBareForPorts G gmi told page_bytes
bare_ports G gmi told page_bytes frames named valid unlimited pages same starts = record {
  valid = valid;
  unlimited = unlimited;
  fits = fits_start page_bytes frames PAGE named (G.machine gmi told) pages same starts;
  caches = ap (λ (m : Machine). m.caches) starts;
  unmapped = λ cache. ap (λ (m : Machine). is_mapped m cache) starts;
}

-- and to keep segments
pub bare_segments : {Manager Mapper Chooser : Type 0} (G : GhostsOfGmi Manager Mapper Chooser) (gmi : Manager) (told : Option Held) (page_bytes : Option ℕ) (frames named : ℕ)
    → G.valid gmi told → G.room gmi ≡ None → IfSome page_bytes (λ n. n ≡ named) → named ≡ PAGE → G.machine gmi told ≡ start frames PAGE → IsBareForSegments G gmi told page_bytes
bare_segments G gmi told page_bytes frames named valid unlimited pages same starts = record {
  valid = valid;
  unlimited = unlimited;
  fits = fits_start page_bytes frames PAGE named (G.machine gmi told) pages same starts;
  caches = ap (λ (m : Machine). m.caches) starts;
  regions = ap (λ (m : Machine). noted_regions 1 m.actors) starts;
}

pub as_asked : (asked : Asked) (words : Option Asked) (P : Asked → Type 0) → Some asked ≡ words → P asked → IfSome words P
as_asked asked words P is h = subst (λ (o : Option Asked). IfSome o P) is h

pub asked_holds : (asked : Asked) (words : Option Asked) (P : Asked → Type 0) → Some asked ≡ words → IsSomeAnd words P → P asked
asked_holds asked words P is h = subst (λ (o : Option Asked). IsSomeAnd o P) (sym is) h

-- how many bytes were taken
taken : (l k : Option (List ℕ)) (script : List ℕ) → Took l k script → IfSome l (λ all. IfSome k (λ rest. length all ≡ length script + length rest))
taken None k script t = tt
taken (Some all) None script t = tt
taken (Some all) (Some rest) script t = let same : Some all ≡ Some (script ++ rest) = t in let is : all ≡ script ++ rest = cc in omega (arith, ap length is, length-append script rest)

-- not all of the script and one byte more
abbrev Limited : Option (List ℕ) → Option (List ℕ) → Type 0 → Type 0
Limited l k P = IfSome l (λ all. IfSome k (λ rest. P ↔ (length all ≡ length rest + (most_bytes + 1))))

limited_no : (l k : Option (List ℕ)) (P : Type 0) (script : List ℕ) → (P → ⊥) → length script ≤ most_bytes → Took l k script → Limited l k P
limited_no None k P script never few t = tt
limited_no (Some all) None P script never few t = tt
limited_no (Some all) (Some rest) P script never few t =
    let n = taken (Some all) (Some rest) script t in
    (λ p. absurd (never p), λ e. absurd (omega (arith, n, few, e)))

limited_yes : (l k : Option (List ℕ)) (P : Type 0) (script : List ℕ) → P → length script ≡ most_bytes + 1 → Took l k script → Limited l k P
limited_yes None k P script surely size t = tt
limited_yes (Some all) None P script surely size t = tt
limited_yes (Some all) (Some rest) P script surely size t =
    let n = taken (Some all) (Some rest) script t in
    (λ p. omega (arith, n, size), λ e. surely)

pub limited_same : (l : Option (List ℕ)) (P : Type 0) → (P → ⊥) → Limited l l P
limited_same None P never = tt
limited_same (Some all) P never = (λ p. absurd (never p), λ e. absurd (omega arith))

-- a script that is too long isn't within the limit
too_many : (l k : Option (List ℕ)) (script : List ℕ) → length script ≡ most_bytes + 1 → Took l k script → IsSomeAnd l (λ all. length all ≤ most_bytes) → ⊥
too_many None k script size t h = absurd h
too_many (Some all) None script size t h = absurd (cc)
too_many (Some all) (Some rest) script size t h = let n = taken (Some all) (Some rest) script t in absurd (omega (arith, n, size, h))

-- what it takes to answer the first line

of_source_fault : (e : Ended) → status_of e ≡ statuses.SourceFault → e ≡ ended.SourceFault
of_source_fault ended.Done h = absurd (cc h)
of_source_fault ended.SourceFault h = refl
of_source_fault ended.SinkFault h = absurd (cc h)
of_source_fault ended.TooLong h = absurd (cc h)

of_sink_fault : (e : Ended) → status_of e ≡ statuses.SinkFault → e ≡ ended.SinkFault
of_sink_fault ended.Done h = absurd (cc h)
of_sink_fault ended.SourceFault h = absurd (cc h)
of_sink_fault ended.SinkFault h = refl
of_sink_fault ended.TooLong h = absurd (cc h)

-- a replay that began ends as neither of these
began : (e : Ended) → (status_of e ≡ statuses.Usage) ⊎ (status_of e ≡ statuses.NoMemory) → ⊥
began ended.Done (inl h) = cc
began ended.Done (inr h) = cc
began ended.SourceFault (inl h) = cc
began ended.SourceFault (inr h) = cc
began ended.SinkFault (inl h) = cc
began ended.SinkFault (inr h) = cc
began ended.TooLong (inl h) = cc
began ended.TooLong (inr h) = cc

-- The same for whatever lines mean

module _ (S : Semantics) (read : List ℕ → S.Read) where
  limited : (e : Ended) (a b : Scene S Told) (l k : Option (List ℕ)) → Ends e S read a b l k → Limited l k (status_of e ≡ statuses.TooLong)
  limited ended.Done a b l k h = limited_no l k _ h.script (λ e. cc) h.within h.took
  limited ended.SourceFault a b l k h = limited_no l k _ h.0 (λ e. cc) h.1 h.2.took
  limited ended.SinkFault a b l k h = limited_no l k _ h.script (λ e. cc) h.within h.took
  limited ended.TooLong a b l k h = limited_yes l k _ h.0 refl h.1 h.2.took

  -- where nothing fails the run is done
  complete : (e : Ended) (a b : Scene S Told) (l k : Option (List ℕ)) (reads reads_now writes writes_now : ℕ) → Ends e S read a b l k → (e ≡ ended.SourceFault → Rose reads reads_now) → (e ≡ ended.SinkFault → Rose writes writes_now)
      → IsSomeAnd l (λ all. length all ≤ most_bytes) → reads_now ≡ reads → reads_now < last_count → writes_now ≡ writes → writes_now < last_count → (status_of e ≡ statuses.Done) ⊎ (status_of e ≡ statuses.NoMemory)
  complete ended.Done a b l k reads reads_now writes writes_now h sr kr few r rl w wl = inl refl
  complete ended.SourceFault a b l k reads reads_now writes writes_now h sr kr few r rl w wl = absurd (omega (arith, sr refl rl))
  complete ended.SinkFault a b l k reads reads_now writes writes_now h sr kr few r rl w wl = absurd (omega (arith, kr refl wl))
  complete ended.TooLong a b l k reads reads_now writes writes_now h sr kr few r rl w wl = absurd (too_many l k h.0 h.1 h.2.took few)

  -- what a replay that began promises
  pub replayed : {Source Sink Mapper Chooser Dispatcher : Type 0} (F : GhostsOfSource Source) (K : GhostsOfSink Sink) (M : GhostsOfMapper Mapper) (D : GhostsOfDispatcher Dispatcher) (e : Ended) (first last : S.State) (old new : Parts Source Sink Mapper Chooser Dispatcher)
      → Ends e S read (scene_at (outside_in K M D old) first) (scene_at (outside_in K M D new) last) (F.left old.0) (F.left new.0) → (e ≡ ended.SourceFault → Rose (F.faults old.0) (F.faults new.0)) → (e ≡ ended.SinkFault → Rose (K.faults old.1) (K.faults new.1))
      → (status : Status) → status ≡ status_of e → Replayed F K M D (EndsFrom status S read first last) status old new
  replayed F K M D e first last old new ends of_source of_sink status is = subst (λ (s : Status). Replayed F K M D (EndsFrom s S read first last) s old new) (sym is) (record {
    ends = λ some. (e, refl, ends);
    untouched = λ none. absurd (began e (inr none));
    not_usage = λ usage. began e (inl usage);
    source_fault = λ f. of_source (of_source_fault e f);
    sink_fault = λ f. of_sink (of_sink_fault e f);
    too_long = limited e _ _ _ _ ends;
    complete = λ few r rl w wl. complete e _ _ _ _ _ _ _ _ ends of_source of_sink few r rl w wl;
  })

module _ {Source Sink Mapper Chooser Dispatcher : Type 0} (F : GhostsOfSource Source) (K : GhostsOfSink Sink) (M : GhostsOfMapper Mapper) (D : GhostsOfDispatcher Dispatcher) where
  -- where there was no memory to begin with
  pub unbegun : (This : Outside → Outside → Told → Told → Type 0) (given : Parts Source Sink Mapper Chooser Dispatcher) → Replayed F K M D This statuses.NoMemory given given
  unbegun This given = record {
    ends = λ some. absurd (some refl);
    untouched = λ none. refl;
    not_usage = λ e. cc;
    source_fault = λ e. absurd (cc e);
    sink_fault = λ e. absurd (cc e);
    too_long = limited_same (F.left given.0) _ (λ e. cc);
    complete = λ few r rl w wl. inr refl;
  }

  -- a replay that ends so ends otherwise, too
  pub ends_too : {This Other : Outside → Outside → Told → Told → Type 0} (status : Status) (old new : Parts Source Sink Mapper Chooser Dispatcher) → Replayed F K M D This status old new
      → (This (outside_in K M D old) (outside_in K M D new) (F.left old.0) (F.left new.0) → Other (outside_in K M D old) (outside_in K M D new) (F.left old.0) (F.left new.0)) → Replayed F K M D Other status old new
  ends_too status old new h other = record {
    ends = λ some. other (h.ends some);
    untouched = h.untouched;
    not_usage = h.not_usage;
    source_fault = h.source_fault;
    sink_fault = h.sink_fault;
    too_long = h.too_long;
    complete = h.complete;
  }

-- a replay that ended so touched nothing
pub untouched : {S K M C D : Type 0} (status : Status) (old new : Parts S K M C D) → (status ≡ statuses.Usage → ⊥) → (status ≡ statuses.NoMemory → new ≡ old) → (status ≡ statuses.Usage) ⊎ (status ≡ statuses.NoMemory)
    → (new.0 ≡ old.0) × (new.1 ≡ old.1) × (new.2 ≡ old.2) × (new.3 ≡ old.3) × (new.4 ≡ old.4)
untouched status old new never same (inl e) = absurd (never e)
untouched status old new never same (inr e) =
    let all = same e in (ap (λ x. x.0) all, ap (λ x. x.1) all, ap (λ x. x.2) all, ap (λ x. x.3) all, ap (λ x. x.4) all)

pub no_usage : (status : Status) → (status ≡ statuses.Done) ⊎ (status ≡ statuses.SinkFault) ⊎ (status ≡ statuses.NoMemory) → status ≡ statuses.Usage → ⊥
no_usage status (inl is) e = cc
no_usage status (inr (inl is)) e = cc
no_usage status (inr (inr is)) e = cc

-- what it takes to answer the first line, where nothing is parked
pub can_start : {Service Mapper Chooser : Type 0} (V : GhostsOfService Service Mapper Chooser) (M : GhostsOfMapper Mapper) (service : Service) (mapper : Mapper) (waits : List Parked) → waits ≡ [] → V.able service (M.held mapper) (M.page_bytes mapper) → V.made service ≤ answer_budget → CanAnswer V M 1 service mapper waits
can_start V M service mapper waits none able made =
    subst (λ (w : List Parked). CanAnswer V M 1 service mapper w) (sym none) (record { serve = record { able = able; let_in = tt; apart = tt }; away = tt; made = omega (arith, made); first = omega arith })
