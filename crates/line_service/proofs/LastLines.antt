-- The last line, and the end of a script.
use Rattle.std.proofs.Common.{◌≡◌, ◌≤◌, ◌+◌, ◌<◌, ℕ, zero, suc, Bool, false, List, [], ◌∷◌, length, Some, None, Result, Ok, Err, refl, sym, ap, subst, ◌∙◌, arith}
use Rattle.std.specs.Prelude.{OnOk, slice_get}
use Rattle.std.proofs.lemmas.List.{append-nil, length-take, length_push}
use Rattle.vm_ids.specs.Counting.{HasCause}
use Rattle.vm_ids.specs.declared.access.Parked.{Parked}
use Rattle.vm_model.specs.Events.{Stand, opening, steps_of}
use Rattle.vm_model.specs.Steps.{Semantics}
use Rattle.vm_port.specs.declared.traits.sink.Sink.{Ghosts as GhostsOfSink}
use Rattle.line_service.specs.Ending.{AllAnswered, AllAnsweredOr, Ran, Texts, TextsFront, Told, texts_of}
use Rattle.line_service.specs.Gathering.{Grew, with_gathered}
use Rattle.line_service.specs.Going.{Goes, GoesOr, IsScript, Known, Scene, Writing, stand_at}
use Rattle.line_service.specs.Going.Known.{begins, whole}
use Rattle.line_service.specs.Parking.{has_to_wait, is_none_parked, lines_parked}
use Rattle.line_service.specs.Putting.{Puts, PutsAll, PutsTillLast}
use Rattle.line_service.specs.Script.{ended_reads_of, front_of_line, reads_of, unended_of}
use Rattle.line_service.specs.Underway.{NearTheEnd, Underway}
use Rattle.line_service.specs.declared.progress.Progress.{Progress}
use Rattle.line_service.specs.declared.service.Service.{Ghosts as GhostsOfService}
use Rattle.line_service.proofs.Endings.{all_answered, ran_to}
use Rattle.line_service.proofs.Gathering.{short_of, with_none}
use Rattle.line_service.proofs.Going.{goes_none}
use Rattle.line_service.proofs.Lines.{front_same, last_line, no_last_line}
use Rattle.line_service.proofs.OneLine.{none_waits}
use Rattle.line_service.proofs.Pieces.{at_written, line_more, reads_with}
use Rattle.line_service.proofs.TryingOthers.{ill}
use Rattle.line_service.proofs.Texts.{CutOff, Gathered, cause_or, goes_known, goes_texts_or, grew_or}

front_empty : (line : List ℕ) → front_of_line line ≡ [] → line ≡ []
front_empty [] e = refl
front_empty (b ∷ bs) e = absurd (cc)

nothing : (line : List ℕ) → length line ≡ 0 → line ≡ []
nothing [] e = refl
nothing (b ∷ bs) e = absurd (omega (arith, e))

pub none_behind : {X : Type 0} (xs : List X) → slice_get xs (length xs) ≡ None
none_behind [] = refl
none_behind (x ∷ xs) = none_behind xs

pub cause_later : {T E : Type 0} (r : Result T E) (a b c : ℕ) → a ≤ b → HasCause b c r → HasCause a c r
cause_later (Ok x) a b c l h = record { later = omega (arith, l, h.later); failed = tt }
cause_later (Err e) a b c l h = record { later = omega (arith, l, h.later); failed = λ below. omega (arith, l, h.failed below) }

pub none_at : {X : Type 0} (xs : List X) (n : ℕ) → n ≡ length xs → slice_get xs n ≡ None
none_at xs n e = ap (slice_get xs) e ∙ none_behind xs

-- there is a script with this line at a place
some_script : {R : Type 0} (n : ℕ) (read : R) → (script : List R) × (slice_get script n ≡ Some read)
some_script zero read = (read ∷ [], refl)
some_script (suc n) read = let rest = some_script n read in (read ∷ rest.0, rest.1)

-- what a line does to a sink, whichever script it is of
module _ {Service Mapper Chooser Sink : Type 0} (V : GhostsOfService Service Mapper Chooser) (K : GhostsOfSink Sink) {T E : Type 0} (r : Result T E) (a b : Scene V.semantics (List ℕ × Sink)) (waits now : List Parked) (number : ℕ) (read : V.semantics.Read) (first : 1 ≤ number)
    (goes : (known : Known V.semantics.Read) (issued : ℕ) → number ≡ issued + 1 → ((script : List V.semantics.Read) → IsScript known script → slice_get script issued ≡ Some read)
    → GoesOr r V.semantics (PutsAll (Gathered K)) (PutsTillLast (Gathered K) (CutOff K)) known a b (stand_at a (lines_parked V waits) issued (is_none_parked waits)) (stand_at b (lines_parked V now) (issued + 1) (is_none_parked now))) where
  issued_before : (issued : ℕ) × (number ≡ issued + 1)
  issued_before = by number first
    where
      by : (n : ℕ) → 1 ≤ n → (issued : ℕ) × (n ≡ issued + 1)
      by zero l = absurd (omega (arith, l))
      by (suc n) l = (n, omega arith)

  pub line_grew : Grew (K.written a.written.1) (K.written b.written.1)
  line_grew =
      let n = issued_before in
      let some = some_script n.0 read in
      grew_or K V.semantics (whole some.0) a b (stand_at a (lines_parked V waits) n.0 (is_none_parked waits)) (stand_at b (lines_parked V now) (n.0 + 1) (is_none_parked now)) r
      (goes (whole some.0) n.0 n.1 (λ script same. ap (λ (l : List V.semantics.Read). slice_get l n.0) same ∙ some.1))

  pub line_cause : HasCause (K.faults a.written.1) (K.faults b.written.1) r
  line_cause =
      let n = issued_before in
      let some = some_script n.0 read in
      cause_or K V.semantics (whole some.0) a b (stand_at a (lines_parked V waits) n.0 (is_none_parked waits)) (stand_at b (lines_parked V now) (n.0 + 1) (is_none_parked now)) r
      (goes (whole some.0) n.0 n.1 (λ script same. ap (λ (l : List V.semantics.Read). slice_get l n.0) same ∙ some.1))

module _ {Service Mapper Chooser : Type 0} (V : GhostsOfService Service Mapper Chooser) where
  abbrev S : Semantics
  S = V.semantics

  -- before the first line
  pub goes_start : {W : Type 0} (puts : Puts W) (known : Known S.Read) (a : Scene S W) (waits : List Parked) → waits ≡ [] → Goes S (PutsAll puts) known a a (opening S a.state) (stand_at a (lines_parked V waits) 0 (is_none_parked waits))
  goes_start puts known a waits none = subst (λ (ws : List Parked). Goes S (PutsAll puts) known a a (opening S a.state) (stand_at a (lines_parked V ws) 0 (is_none_parked ws))) (sym none) (goes_none S puts known a (opening S a.state))

  -- no line is left
  pub no_more_lines : (a b : Scene S Told) (waits : List Parked) (p : Progress) (script : List ℕ) → length p.line.items ≡ 0 → Underway V a b waits p script → Goes S Texts (whole (reads_of V.read script)) a b (opening S a.state) (stand_at b (lines_parked V waits) (length (reads_of V.read script)) (is_none_parked waits))
  no_more_lines a b waits p script empty g =
      let ended = ended_reads_of V.read script in
      let same : ended ≡ reads_of V.read script = sym (no_last_line V.read script (front_empty (unended_of script) (sym g.line_is ∙ nothing p.line.items empty))) in
      let all : Goes S Texts (whole ended) a b (opening S a.state) (stand_at b (lines_parked V waits) (length ended) (is_none_parked waits)) =
      goes_known S Texts (begins ended) (whole ended) a b (opening S a.state) (stand_at b (lines_parked V waits) (length ended) (is_none_parked waits)) (λ script is. front_same ended script (sym is)) g.goes in
      subst (λ (reads : List S.Read). Goes S Texts (whole reads) a b (opening S a.state) (stand_at b (lines_parked V waits) (length reads) (is_none_parked waits))) same all

  -- the last line is answered or parked
  pub last_more : (fronts : (line : List ℕ) → V.read (front_of_line line) ≡ V.read line) → {T E : Type 0} (r : Result T E) (a b c : Scene S Told) (waits now : List Parked) (p : Progress) (script : List ℕ) → 0 < length p.line.items → Underway V a b waits p script
      → ((known : Known S.Read) (issued : ℕ) → p.number ≡ issued + 1 → ((all : List S.Read) → IsScript known all → slice_get all issued ≡ Some (V.read p.line.items))
      → GoesOr r S Texts TextsFront known b c (stand_at b (lines_parked V waits) issued (is_none_parked waits)) (stand_at c (lines_parked V now) (issued + 1) (is_none_parked now)))
      → NearTheEnd r V a c now script
  last_more fronts r a b c waits now p script some g goes =
      let ended = ended_reads_of V.read script in
      let reads = reads_with V script in
      let same : reads ≡ reads_of V.read script = sym (last_line V.read script (omega (arith, some, ap length g.line_is, length-take 257 (unended_of script)))) in
      let count : length ended + 1 ≡ length reads = sym (length_push ended (V.read (unended_of script))) in
      subst (λ (l : List S.Read). GoesOr r S Texts TextsFront (whole l) a c (opening S a.state) (stand_at c (lines_parked V now) (length l) (is_none_parked now))) same
      (subst (λ (n : ℕ). GoesOr r S Texts TextsFront (whole reads) a c (opening S a.state) (stand_at c (lines_parked V now) n (is_none_parked now))) count
      (line_more V fronts r a b c waits now p script g goes (whole reads) (λ all is. front_same reads all (sym is))))

  -- the end waits for all that is parked
  pub ended_or : {W T E : Type 0} (r : Result T E) (All Part : Writing W S.Read) (a c : Scene S W) (now : List Parked) (asking : Bool) (count : ℕ) (reads : List S.Read) → count ≡ length reads → OnOk r (has_to_wait None now ≡ false) → GoesOr r S All Part (whole reads) a c (opening S a.state) (stand_at c (lines_parked V now) count asking) → AllAnsweredOr r S All Part a c reads
  ended_or (Ok x) All Part a c now asking count reads same none goes = all_answered S All reads a c (stand_at c (lines_parked V now) count asking) refl (record { parked = ap (lines_parked V) (none_waits now none); issued = same }) goes
  ended_or (Err e) All Part a c now asking count reads same none goes = (goes.0, ran_to S Part (whole reads) a c goes.0 goes.1 goes.2)

  -- an answer couldn't be put
  pub cut_at : {W : Type 0} (All Part : Writing W S.Read) (a c : Scene S W) (reads : List S.Read) (t : Stand S) → t.state ≡ c.state → GoesOr ill S All Part (whole reads) a c (opening S a.state) t → (last : Stand S) × Ran S Part (whole reads) a c last
  cut_at All Part a c reads t same goes = (goes.0, ran_to S Part (whole reads) a c goes.0 (goes.1 ∙ same) goes.2)

  pub end_more : {T E : Type 0} (r : Result T E) (a b c : Scene S Told) (waits now : List Parked) (reads : List S.Read) → Goes S Texts (whole reads) a b (opening S a.state) (stand_at b (lines_parked V waits) (length reads) (is_none_parked waits))
      → GoesOr r S Texts TextsFront (whole reads) b c (stand_at b (lines_parked V waits) (length reads) (is_none_parked waits)) (stand_at c (lines_parked V now) (length reads) (is_none_parked waits)) → OnOk r (has_to_wait None now ≡ false) → AllAnsweredOr r S Texts TextsFront a c reads
  end_more r a b c waits now reads first more none =
      ended_or r Texts TextsFront a c now (is_none_parked waits) (length reads) reads refl none
      (goes_texts_or S (whole reads) a b c (opening S a.state) (stand_at b (lines_parked V waits) (length reads) (is_none_parked waits)) (stand_at c (lines_parked V now) (length reads) (is_none_parked waits)) r first more)

  -- a write failed before
  pub end_cut : (a c : Scene S Told) (waits : List Parked) (script : List ℕ) → NearTheEnd ill V a c waits script → (last : Stand S) × Ran S TextsFront (whole (reads_of V.read script)) a c last
  end_cut a c waits script near = (near.0, ran_to S TextsFront (whole (reads_of V.read script)) a c near.0 near.1 near.2)

  -- nothing is gathered yet
  pub underway_none : (a b : Scene S Told) (waits : List Parked) (p : Progress) (script : List ℕ) → Underway V a b waits p script → Underway V a (at_written V b (with_gathered b.written [])) waits p script
  underway_none a b waits p script g = subst (λ (w : Told). Underway V a (at_written V b w) waits p script) (with_none b.written) g

  -- what is gathered is written, or a write fails
  pub all_out : {T E : Type 0} (r : Result T E) (a b : Scene S Told) (v : Told) (left : List ℕ) (reads : List S.Read) → OnOk r (left ≡ []) → with_gathered v left ≡ b.written → Grew a.written v → AllAnswered S Texts a b reads → AllAnsweredOr r S Texts TextsFront a (at_written V b v) reads
  all_out (Ok x) a b v left reads empty kept grew h =
      let same : v ≡ b.written = with_none v ∙ ap (λ (l : List ℕ). with_gathered v l) (sym empty) ∙ kept in
      subst (λ (w : Told). AllAnswered S Texts a (at_written V b w) reads) (sym same) h
  all_out (Err e) a b v left reads empty kept grew h =
      let p = h.ran.goes in (
        h.last,
        record {
          goes = record {
            events = p.events;
            leads = p.leads;
            turned = p.turned;
            rose = p.rose;
            put = short_of a.written v left (texts_of (steps_of p.events)) grew (record { front = texts_of (steps_of p.events); back = []; parts = sym (append-nil (texts_of (steps_of p.events))); writes = kept ∙ p.put });
          };
          in_order = h.ran.in_order;
          state_is = h.ran.state_is;
        },
      )

  -- it failed before
  pub cut_out : (a b : Scene S Told) (v : Told) (left : List ℕ) (reads : List S.Read) → with_gathered v left ≡ b.written → Grew a.written v → (last : Stand S) × Ran S TextsFront (whole reads) a b last → (last : Stand S) × Ran S TextsFront (whole reads) a (at_written V b v) last
  cut_out a b v left reads kept grew h =
      let p = h.1.goes in (
        h.0,
        record {
          goes = record {
            events = p.events;
            leads = p.leads;
            turned = p.turned;
            rose = p.rose;
            put = short_of a.written v left (texts_of (steps_of p.events)) grew (subst (λ (w : Told). TextsFront a.written (steps_of p.events) w) (sym kept) p.put);
          };
          in_order = h.1.in_order;
          state_is = h.1.state_is;
        },
      )
