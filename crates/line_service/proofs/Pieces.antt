-- How far a replay has come, and some bytes more.
use Rattle.std.proofs.Common.{◌≡◌, ◌+◌, ◌-◌, ◌≤◌, ℕ, List, [], ◌∷◌, ◌++◌, length, take, drop, map, Some, Result, Ok, Err, refl, sym, ap, subst, ◌∙◌, append_assoc, arith}
use Rattle.std.specs.Prelude.{OnOk, slice_get}
use Rattle.std.proofs.lemmas.List.{append-nil, map-append, length-append, length-drop, length_push, take_rest, take-append-drop}
use Rattle.std.proofs.Math.Seq.{take-add, take-append_seam}
use Rattle.vm_ids.specs.declared.access.Parked.{Parked}
use Rattle.vm_model.specs.Events.{opening, steps_of}
use Rattle.vm_model.specs.Steps.{Semantics}
use Rattle.actor_script.specs.Writing.{WritesFront}
use Rattle.actor_script.proofs.Written.{writes_none}
use Rattle.line_service.specs.Ending.{Texts, TextsFront, Told, texts_of}
use Rattle.line_service.specs.Gathering.{Grew, with_gathered}
use Rattle.line_service.specs.Going.{Goes, GoesOr, IsScript, Known, Scene, stand_at}
use Rattle.line_service.specs.Going.Known.{begins}
use Rattle.line_service.specs.Parking.{is_none_parked, lines_parked}
use Rattle.line_service.specs.Script.{HasNoFeed, IsFront, ended_lines_of, ended_reads_of, front_of_line, unended_of}
use Rattle.line_service.specs.Underway.{Broken, Underway, UnderwayOr}
use Rattle.line_service.specs.declared.progress.Progress.{Progress}
use Rattle.line_service.specs.declared.service.Service.{Ghosts as GhostsOfService}
use Rattle.line_service.proofs.Fronts.{front_on}
use Rattle.line_service.proofs.Gathering.{short_of, with_none}
use Rattle.line_service.proofs.Going.{rise_none, turned_none}
use Rattle.line_service.proofs.Lines.{ended_feed, ended_other, front_ended_reads, front_longer, front_same, front_trans, unended_feed, unended_other}
use Rattle.line_service.proofs.Texts.{goes_known, goes_texts_or}

-- the line behind these
pub line_behind : {R : Type 0} (reads : List R) (read : R) (back : List R) → slice_get ((reads ++ read ∷ []) ++ back) (length reads) ≡ Some read
line_behind [] read back = refl
line_behind (r ∷ reads) read back = line_behind reads read back

pub comes_behind : {R : Type 0} (reads : List R) (read : R) (script : List R) → IsFront (reads ++ read ∷ []) script → slice_get script (length reads) ≡ Some read
comes_behind reads read script h = subst (λ (l : List _). slice_get l (length reads) ≡ Some read) (sym h.parts) (line_behind reads read h.back)

module _ {Service Mapper Chooser : Type 0} (V : GhostsOfService Service Mapper Chooser) where
  abbrev S : Semantics
  S = V.semantics

  pub underway_start : (a : Scene S Told) (waits : List Parked) (p : Progress) → waits ≡ [] → p.number ≡ 1 → p.line.items ≡ [] → Underway V a a waits p []
  unfolding ended_lines_of unended_of
  underway_start a waits p none n l = record {
    goes = subst (λ (ws : List Parked). Goes S Texts (begins []) a a (opening S a.state) (stand_at a (lines_parked V ws) 0 (is_none_parked ws))) (sym none)
        (record { events = []; leads = λ script h. refl; turned = turned_none a.turns; rose = rise_none a.counts; put = writes_none a.written });
    number_is = n;
    line_is = l;
  }

  -- bytes that end no line
  pub underway_part : (a b : Scene S Told) (waits : List Parked) (p q : Progress) (script more : List ℕ) → HasNoFeed more → q.number ≡ p.number → q.line.items ≡ front_of_line (p.line.items ++ more) → Underway V a b waits p script → Underway V a b waits q (script ++ more)
  underway_part a b waits p q script more plain n l g =
      let same : ended_reads_of V.read (script ++ more) ≡ ended_reads_of V.read script = ap (map V.read) (ended_other script more plain) in
      record {
        goes = subst (λ (reads : List S.Read). Goes S Texts (begins reads) a b (opening S a.state) (stand_at b (lines_parked V waits) (length reads) (is_none_parked waits))) (sym same) g.goes;
        number_is = n ∙ g.number_is ∙ ap (λ (reads : List S.Read). length reads + 1) (sym same);
        line_is = l ∙ ap (λ (x : List ℕ). front_of_line (x ++ more)) g.line_is ∙ front_on (unended_of script) more ∙ ap front_of_line (sym (unended_other script more plain));
      }

  -- what was read in the lines, and what is read in the next one
  abbrev pub reads_with : List ℕ → List S.Read
  reads_with script = ended_reads_of V.read script ++ V.read (unended_of script) ∷ []

  ended_is : (script : List ℕ) → reads_with script ≡ ended_reads_of V.read (script ++ 10 ∷ [])
  ended_is script = sym (ap (map V.read) (ended_feed script) ∙ map-append V.read (ended_lines_of script) (unended_of script ∷ []))

  module _ (fronts : (line : List ℕ) → V.read (front_of_line line) ≡ V.read line) where
    -- what is read in the front of the line
    pub read_is : (a b : Scene S Told) (waits : List Parked) (p : Progress) (script : List ℕ) → Underway V a b waits p script → V.read p.line.items ≡ V.read (unended_of script)
    read_is a b waits p script g = ap V.read g.line_is ∙ fronts (unended_of script)

    pub comes : (a b : Scene S Told) (waits : List Parked) (p : Progress) (script : List ℕ) → Underway V a b waits p script → (all : List S.Read) → IsFront (reads_with script) all → slice_get all (length (ended_reads_of V.read script)) ≡ Some (V.read p.line.items)
    comes a b waits p script g all h = comes_behind (ended_reads_of V.read script) (V.read (unended_of script)) all h ∙ ap Some (sym (read_is a b waits p script g))

    -- the next line is answered or parked
    pub line_more : {T E : Type 0} (r : Result T E) (a b c : Scene S Told) (waits waits_now : List Parked) (p : Progress) (script : List ℕ) → Underway V a b waits p script
        → ((known : Known S.Read) (issued : ℕ) → p.number ≡ issued + 1 → ((all : List S.Read) → IsScript known all → slice_get all issued ≡ Some (V.read p.line.items))
        → GoesOr r S Texts TextsFront known b c (stand_at b (lines_parked V waits) issued (is_none_parked waits)) (stand_at c (lines_parked V waits_now) (issued + 1) (is_none_parked waits_now)))
        → (known : Known S.Read) → ((all : List S.Read) → IsScript known all → IsFront (reads_with script) all)
        → GoesOr r S Texts TextsFront known a c (opening S a.state) (stand_at c (lines_parked V waits_now) (length (ended_reads_of V.read script) + 1) (is_none_parked waits_now))
    line_more r a b c waits waits_now p script g goes known begun =
        let reads = ended_reads_of V.read script in
        goes_texts_or S known a b c (opening S a.state) (stand_at b (lines_parked V waits) (length reads) (is_none_parked waits)) (stand_at c (lines_parked V waits_now) (length reads + 1) (is_none_parked waits_now)) r
        (goes_known S Texts (begins reads) known a b (opening S a.state) (stand_at b (lines_parked V waits) (length reads) (is_none_parked waits)) (λ all h. front_trans reads (reads_with script) all (front_longer reads _) (begun all h)) g.goes)
        (goes known (length reads) g.number_is (λ all h. comes a b waits p script g all (begun all h)))

  underway_line : {T E : Type 0} (r : Result T E) (a c : Scene S Told) (waits : List Parked) (p q : Progress) (script : List ℕ) → p.number ≡ length (ended_reads_of V.read script) + 1 → q.number ≡ p.number + 1 → q.line.items ≡ []
      → GoesOr r S Texts TextsFront (begins (reads_with script)) a c (opening S a.state) (stand_at c (lines_parked V waits) (length (ended_reads_of V.read script) + 1) (is_none_parked waits)) → UnderwayOr r V a c waits q (script ++ 10 ∷ [])
  underway_line (Ok x) a c waits p q script old n l goes =
      let count : length (ended_reads_of V.read script) + 1 ≡ length (reads_with script) = sym (length_push (ended_reads_of V.read script) (V.read (unended_of script))) in
      let here : Goes S Texts (begins (reads_with script)) a c (opening S a.state) (stand_at c (lines_parked V waits) (length (reads_with script)) (is_none_parked waits)) =
      subst (λ (k : ℕ). Goes S Texts (begins (reads_with script)) a c (opening S a.state) (stand_at c (lines_parked V waits) k (is_none_parked waits))) count goes in
      record {
        goes = subst (λ (reads : List S.Read). Goes S Texts (begins reads) a c (opening S a.state) (stand_at c (lines_parked V waits) (length reads) (is_none_parked waits))) (ended_is script) here;
        number_is = n ∙ ap (λ (k : ℕ). k + 1) (old ∙ count ∙ ap length (ended_is script));
        line_is = l ∙ ap front_of_line (sym (unended_feed script));
      }
  underway_line (Err x) a c waits p q script old n l cut = record {
    reads = reads_with script;
    front = front_same _ _ (ended_is script);
    last = cut.0;
    state_is = cut.1;
    goes = cut.2;
  }

  -- the rest of a line, and the line feed that ends it
  pub underway_end : (fronts : (line : List ℕ) → V.read (front_of_line line) ≡ V.read line) → {T E : Type 0} (r : Result T E) (a b c : Scene S Told) (waits waits_now : List Parked) (p m q : Progress) (script more : List ℕ) → HasNoFeed more → m.number ≡ p.number → m.line.items ≡ front_of_line (p.line.items ++ more)
      → q.number ≡ m.number + 1 → q.line.items ≡ []
      → ((known : Known S.Read) (issued : ℕ) → m.number ≡ issued + 1 → ((all : List S.Read) → IsScript known all → slice_get all issued ≡ Some (V.read m.line.items))
      → GoesOr r S Texts TextsFront known b c (stand_at b (lines_parked V waits) issued (is_none_parked waits)) (stand_at c (lines_parked V waits_now) (issued + 1) (is_none_parked waits_now)))
      → Underway V a b waits p script → UnderwayOr r V a c waits_now q (script ++ (more ++ 10 ∷ []))
  underway_end fronts r a b c waits waits_now p m q script more plain n l n' l' goes g =
      let here = underway_part a b waits p m script more plain n l g in
      subst (UnderwayOr r V a c waits_now q) (append_assoc script more (10 ∷ []))
      (underway_line r a c waits_now m q (script ++ more) here.number_is n' l'
      (line_more fronts r a b c waits waits_now m (script ++ more) here goes (begins (reads_with (script ++ more))) (λ all h. h)))

  -- what was written grew
  pub grew_since : (a b : Scene S Told) (waits : List Parked) (p : Progress) (script : List ℕ) → Underway V a b waits p script → Grew a.written b.written
  grew_since a b waits p script g = (_, g.goes.put)

  -- scenes that differ in what was written alone
  abbrev pub at_written : Scene S Told → Told → Scene S Told
  at_written a written = record { state = a.state; counts = a.counts; turns = a.turns; written = written }

  -- what is gathered is written, or a write fails
  pub underway_out : {T E : Type 0} (r : Result T E) (a b : Scene S Told) (v : Told) (left : List ℕ) (waits : List Parked) (p : Progress) (script : List ℕ) → OnOk r (left ≡ []) → with_gathered v left ≡ b.written → Grew a.written v → Underway V a b waits p script → UnderwayOr r V a (at_written b v) waits p script
  underway_out (Ok x) a b v left waits p script empty kept grew g =
      let same : v ≡ b.written = with_none v ∙ ap (λ (l : List ℕ). with_gathered v l) (sym empty) ∙ kept in
      subst (λ (w : Told). Underway V a (at_written b w) waits p script) (sym same) g
  underway_out (Err e) a b v left waits p script empty kept grew g =
      let h = g.goes in
      record {
        reads = ended_reads_of V.read script;
        front = front_same _ _ refl;
        last = stand_at b (lines_parked V waits) (length (ended_reads_of V.read script)) (is_none_parked waits);
        state_is = refl;
        goes = record {
          events = h.events;
          leads = h.leads;
          turned = h.turned;
          rose = h.rose;
          put = short_of a.written v left (texts_of (steps_of h.events)) grew (record { front = texts_of (steps_of h.events); back = []; parts = sym (append-nil (texts_of (steps_of h.events))); writes = kept ∙ h.put });
        };
      }

  -- a write failed before
  pub broken_short : (a b : Scene S Told) (v : Told) (left script : List ℕ) → with_gathered v left ≡ b.written → Grew a.written v → Broken V a b script → Broken V a (at_written b v) script
  broken_short a b v left script kept grew h = record {
    reads = h.reads;
    front = h.front;
    last = h.last;
    state_is = h.state_is;
    goes = record {
      events = h.goes.events;
      leads = h.goes.leads;
      turned = h.goes.turned;
      rose = h.goes.rose;
      put = short_of a.written v left (texts_of (steps_of h.goes.events)) grew (subst (λ (w : Told). WritesFront a.written w (texts_of (steps_of h.goes.events))) (sym kept) h.goes.put);
    };
  }

-- the bytes from this place on, as a slice has them
abbrev rest_from : List ℕ → ℕ → List ℕ
rest_from bytes i = take (length bytes - i) (drop i bytes)

-- a line and its line feed, at the front of these
module _ (bytes line : List ℕ) (i : ℕ) (front : IsFront (line ++ 10 ∷ []) (rest_from bytes i)) where
  parts : drop i bytes ≡ (line ++ 10 ∷ []) ++ front.back
  parts = sym (take_rest bytes i) ∙ front.parts

  pub line_within : i + (length line + 1) ≤ length bytes
  line_within = omega (arith, ap length parts, length-drop i bytes, length-append (line ++ 10 ∷ []) front.back, length_push line 10)

  line_on : (script : List ℕ) → (script ++ take i bytes) ++ (line ++ 10 ∷ []) ≡ script ++ take (i + (length line + 1)) bytes
  line_on script =
      let fed : List ℕ = line ++ 10 ∷ [] in
      append_assoc script (take i bytes) fed
      ∙ ap (λ (l : List ℕ). script ++ l)
      (ap (λ (l : List ℕ). take i bytes ++ l) (sym (ap (take (length fed)) parts ∙ take-append_seam fed front.back))
      ∙ sym (take-add i (length fed) bytes) ∙ ap (λ (n : ℕ). take (i + n) bytes) (length_push line 10))

  module _ {Service Mapper Chooser : Type 0} (V : GhostsOfService Service Mapper Chooser) (a b : Scene V.semantics Told) (script : List ℕ) where
    pub underway_next : (waits : List Parked) (p : Progress) → Underway V a b waits p ((script ++ take i bytes) ++ (line ++ 10 ∷ [])) → Underway V a b waits p (script ++ take (i + (length line + 1)) bytes)
    underway_next waits p g = subst (Underway V a b waits p) (line_on script) g

    pub broken_next : Broken V a b ((script ++ take i bytes) ++ (line ++ 10 ∷ [])) → Broken V a b (script ++ bytes)
    broken_next h =
        let behind = i + (length line + 1) in
        let whole_is : (script ++ take behind bytes) ++ drop behind bytes ≡ script ++ bytes = append_assoc script (take behind bytes) (drop behind bytes) ∙ ap (λ (l : List ℕ). script ++ l) (take-append-drop behind bytes) in
        let taken = subst (Broken V a b) (line_on script) h in
        subst (Broken V a b) whole_is (record { reads = taken.reads; front = front_trans _ _ _ taken.front (front_ended_reads V.read (script ++ take behind bytes) (drop behind bytes)); last = taken.last; state_is = taken.state_is; goes = taken.goes })

-- the line that is left
pub underway_rest : {Service Mapper Chooser : Type 0} (V : GhostsOfService Service Mapper Chooser) (a b : Scene V.semantics Told) (waits : List Parked) (p q : Progress) (script bytes : List ℕ) (i : ℕ) → HasNoFeed (rest_from bytes i) → q.number ≡ p.number → q.line.items ≡ front_of_line (p.line.items ++ rest_from bytes i)
    → Underway V a b waits p (script ++ take i bytes) → Underway V a b waits q (script ++ bytes)
underway_rest V a b waits p q script bytes i plain n l g =
    let whole_is : (script ++ take i bytes) ++ rest_from bytes i ≡ script ++ bytes =
    append_assoc script (take i bytes) (rest_from bytes i) ∙ ap (λ (l : List ℕ). script ++ l) (ap (λ (l : List ℕ). take i bytes ++ l) (take_rest bytes i) ∙ take-append-drop i bytes) in
    subst (Underway V a b waits q) whole_is (underway_part V a b waits p q (script ++ take i bytes) (rest_from bytes i) plain n l g)
