-- The bytes taken so far, and one more piece or the end.
use Rattle.std.proofs.Common.{◌≡◌, ◌≤◌, ◌+◌, ℕ, zero, suc, List, [], ◌∷◌, ◌++◌, length, take, drop, Option, Some, None, refl, sym, ap, subst, ◌∙◌, append_assoc, arith}
use Rattle.std.specs.Prelude.{option_map, IfSome}
use Rattle.std.proofs.lemmas.List.{append-nil, length-append, take_all, take-append-le}
use Rattle.vm_ids.specs.declared.access.Parked.{Parked}
use Rattle.vm_model.specs.Events.{Event, IsOver, Stand, opening, steps_of}
use Rattle.vm_model.specs.InOrder.{IsInOrder, answer_order}
use Rattle.vm_model.specs.Steps.{Semantics, lines_answered, numbered_from}
use Rattle.vm_model.proofs.WholeRuns.Order.{run_in_order}
use Rattle.line_service.specs.Ending.{AllAnswered, Answered, Ends, Finished, Interrupted, Ran, Texts, TextsFront, Told, Took}
use Rattle.line_service.specs.Going.{Goes, Known, Scene, Writing, stand_at}
use Rattle.line_service.specs.Going.Known.{begins, whole}
use Rattle.line_service.specs.Parking.{is_none_parked, lines_parked}
use Rattle.line_service.specs.Script.{IsFront, ended_reads_of, most_bytes, reads_of}
use Rattle.line_service.specs.Underway.{Broken, Underway}
use Rattle.line_service.specs.declared.ended.Ended.TheVariants as ends
use Rattle.line_service.specs.declared.progress.Progress.{Progress}
use Rattle.line_service.specs.declared.service.Service.{Ghosts as GhostsOfService}
use Rattle.line_service.proofs.Lines.{front_reads, front_trans}
use Rattle.line_service.proofs.Pieces.{underway_start}

-- a run, and the order of its answers
pub ran_to : (S : Semantics) {W : Type 0} (Put : Writing W S.Read) (known : Known S.Read) (a b : Scene S W) (last : Stand S) → last.state ≡ b.state → Goes S Put known a b (opening S a.state) last → Ran S Put known a b last
ran_to S Put known a b last same h = record {
  goes = h;
  in_order = λ script so. run_in_order S script a.state h.events last (h.leads script so);
  state_is = same;
}

drop_all : {X : Type 0} (n : ℕ) (xs : List X) → length xs ≤ n → drop n xs ≡ []
drop_all zero [] l = refl
drop_all zero (x ∷ xs) l = absurd (omega (arith, l))
drop_all (suc n) [] l = refl
drop_all (suc n) (x ∷ xs) l = drop_all n xs (omega arith)

length-numbered : {R : Type 0} (first : ℕ) (reads : List R) → length (numbered_from first reads) ≡ length reads
length-numbered first [] = refl
length-numbered first (r ∷ reads) = ap suc (length-numbered (first + 1) reads)

-- where each line is answered, nothing stands behind these lines
order_over : (S : Semantics) (reads : List S.Read) (events : List (Event S.Read)) (last : Stand S) → IsOver S reads last → answer_order S reads events last ≡ lines_answered (steps_of events)
order_over S reads events last over =
    let behind : drop last.issued (numbered_from 1 reads) ≡ [] = drop_all last.issued (numbered_from 1 reads) (omega (arith, over.issued, length-numbered 1 reads)) in
    ap (λ (l : List (ℕ × S.Read)). lines_answered (steps_of events) ++ (last.parked ++ l)) behind
    ∙ ap (λ (l : List (ℕ × S.Read)). lines_answered (steps_of events) ++ (l ++ [])) over.parked
    ∙ append-nil (lines_answered (steps_of events))

pub all_answered : (S : Semantics) {W : Type 0} (Put : Writing W S.Read) (reads : List S.Read) (a b : Scene S W) (last : Stand S) → last.state ≡ b.state → IsOver S reads last → Goes S Put (whole reads) a b (opening S a.state) last → AllAnswered S Put a b reads
unfolding ran_to
all_answered S Put reads a b last same over h =
    let ran = ran_to S Put (whole reads) a b last same h in
    record {
      last = last;
      ran = ran;
      over = over;
      in_order = subst (IsInOrder S reads) (order_over S reads h.events last over) (ran.in_order reads refl);
    }

-- bytes of a source

took_none : (l : Option (List ℕ)) → Took l l []
took_none None = refl
took_none (Some r) = refl

took_then : (l k j : Option (List ℕ)) (x y : List ℕ) → Took l k x → Took k j y → Took l j (x ++ y)
took_then l k None x y p q = p ∙ ap (option_map (λ (r : List ℕ). x ++ r)) q
took_then l k (Some r) x y p q = p ∙ ap (option_map (λ (r : List ℕ). x ++ r)) q ∙ ap Some (sym (append_assoc x y r))

took_end : (l k : Option (List ℕ)) (x : List ℕ) → Took l k x → IfSome l (λ rest. rest ≡ []) → IfSome k (λ rest. rest ≡ [])
took_end l None x p e = tt
took_end None (Some r) x p e = absurd (cc)
took_end (Some l) (Some r) [] p e = let same : Some l ≡ Some r = p in let is : l ≡ r = cc in sym is ∙ e
took_end (Some l) (Some r) (b ∷ x) p e = let same : Some l ≡ Some (b ∷ (x ++ r)) = p in let is : l ≡ b ∷ (x ++ r) = cc in absurd (cc)

-- what holds of the bytes taken and more holds of all that the source had
of_whole : (l k : Option (List ℕ)) (x : List ℕ) (P : List ℕ → Type 0) → Took l k x → ((more : List ℕ) → P (x ++ more)) → IfSome l P
of_whole None k x P p h = tt
of_whole (Some l) None x P p h = absurd (cc)
of_whole (Some l) (Some r) x P p h = let same : Some l ≡ Some (x ++ r) = p in let is : l ≡ x ++ r = cc in subst P (sym is) (h r)

of_end : (l k : Option (List ℕ)) (x : List ℕ) (P : List ℕ → Type 0) → Took l k x → IfSome k (λ rest. rest ≡ []) → P x → IfSome l P
of_end None k x P p e h = tt
of_end (Some l) None x P p e h = absurd (cc)
of_end (Some l) (Some r) x P p e h = let same : Some l ≡ Some (x ++ r) = p in let is : l ≡ x ++ r = cc in subst P (sym (is ∙ ap (λ (y : List ℕ). x ++ y) e ∙ append-nil x)) h

-- So many bytes were taken, and each line that they end is answered or parked.
pub record Reached {Service Mapper Chooser : Type 0} (V : GhostsOfService Service Mapper Chooser)
    (before now : Scene V.semantics Told) (left left_now : Option (List ℕ)) (waits : List Parked)
    (progress : Progress) (taken : ℕ) : Type 0 where
  pub script : List ℕ
  pub size : length script ≡ taken
  pub took : Took left left_now script
  pub underway : Underway V before now waits progress script

module _ {Service Mapper Chooser : Type 0} (V : GhostsOfService Service Mapper Chooser) where
  abbrev S : Semantics
  S = V.semantics

  pub reached_start : (a : Scene S Told) (l : Option (List ℕ)) (waits : List Parked) (p : Progress) → waits ≡ [] → p.number ≡ 1 → p.line.items ≡ [] → Reached V a a l l waits p 0
  reached_start a l waits p none n e = record { script = []; size = refl; took = took_none l; underway = underway_start V a waits p none n e }

  answered_ended : (a b : Scene S Told) (waits : List Parked) (p : Progress) (script : List ℕ) → Underway V a b waits p script → Answered S a b (ended_reads_of V.read script)
  answered_ended a b waits p script g =
      let reads = ended_reads_of V.read script in
      let last = stand_at b (lines_parked V waits) (length reads) (is_none_parked waits) in
      record { last = last; ran = ran_to S Texts (begins reads) a b last refl g.goes; issued = refl }

  module _ (a b : Scene S Told) (l k j : Option (List ℕ)) (waits : List Parked) (p : Progress) (taken : ℕ) (h : Reached V a b l k waits p taken) where
    pub reached_more : (c : Scene S Told) (waits_now : List Parked) (q : Progress) (bytes : List ℕ) (count : ℕ) → Took k j bytes → length bytes ≡ count → ((before : Scene S Told) (script : List ℕ) → Underway V before b waits p script → Underway V before c waits_now q (script ++ bytes)) → Reached V a c l j waits_now q (taken + count)
    reached_more c waits_now q bytes count took size goes = record {
      script = h.script ++ bytes;
      size = omega (arith, h.size, size, length-append h.script bytes);
      took = took_then l k j h.script bytes h.took took;
      underway = goes a h.script h.underway;
    }

    -- a read failed
    pub source_fault : taken ≤ most_bytes → j ≡ k → Ends ends.SourceFault S V.read a b l j
    source_fault within same =
        let small : length h.script ≤ most_bytes = omega (arith, h.size) in (
          h.script,
          small,
          record {
            took = subst (λ (left : Option (List ℕ)). Took l left h.script) (sym same) h.took;
            answered = subst (λ (x : List ℕ). Answered S a b (ended_reads_of V.read x)) (sym (take_all most_bytes h.script small)) (answered_ended a b waits p h.script h.underway);
          },
        )

    -- the byte behind the limit was taken
    pub too_long : (bytes : List ℕ) → Took k j bytes → taken ≡ most_bytes → length bytes ≡ 1 → Ends ends.TooLong S V.read a b l j
    too_long bytes took at one =
        let front : take most_bytes (h.script ++ bytes) ≡ h.script = take-append-le most_bytes h.script bytes (omega (arith, h.size)) ∙ take_all most_bytes h.script (omega (arith, h.size)) in
        let size : length (h.script ++ bytes) ≡ most_bytes + 1 = omega (arith, h.size, one, length-append h.script bytes) in (
          h.script ++ bytes,
          size,
          record {
            took = took_then l k j h.script bytes h.took took;
            answered = subst (λ (x : List ℕ). Answered S a b (ended_reads_of V.read x)) (sym front) (answered_ended a b waits p h.script h.underway);
          },
        )

    -- a write failed
    pub sink_fault : (c : Scene S Told) (bytes : List ℕ) (count : ℕ) → Took k j bytes → length bytes ≡ count → taken + count ≤ most_bytes → ((before : Scene S Told) (script : List ℕ) → Underway V before b waits p script → Broken V before c (script ++ bytes)) → Interrupted S V.read a c l j
    sink_fault c bytes count took size within goes =
        let broken = goes a h.script h.underway in
        let script = h.script ++ bytes in
        let took_all = took_then l k j h.script bytes h.took took in
        let begun : (more : List ℕ) → IsFront broken.reads (reads_of V.read (script ++ more)) = λ more. front_trans _ _ _ broken.front (front_reads V.read script more) in
        record {
          script = script;
          took = took_all;
          within = omega (arith, h.size, size, length-append h.script bytes);
          known = begins broken.reads;
          of_taken = subst (λ (x : List ℕ). IsFront broken.reads (reads_of V.read x)) (append-nil script) (begun []);
          of_whole = of_whole l j script (λ all. IsFront broken.reads (reads_of V.read all)) took_all begun;
          last = broken.last;
          ran = ran_to S TextsFront (begins broken.reads) a c broken.last broken.state_is broken.goes;
        }

    took_script : Took k j [] → Took l j h.script
    took_script took = subst (λ (x : List ℕ). Took l j x) (append-nil h.script) (took_then l k j h.script [] h.took took)

    -- the script has ended
    pub finished : (c : Scene S Told) → taken ≤ most_bytes → Took k j [] → IfSome k (λ rest. rest ≡ []) → ((before : Scene S Told) (script : List ℕ) → Underway V before b waits p script → AllAnswered S Texts before c (reads_of V.read script)) → Finished S V.read a c l j
    finished c within took end answers = record {
      script = h.script;
      took = took_script took;
      within = omega (arith, h.size);
      end = took_end k j [] took end;
      answered = answers a h.script h.underway;
    }

    -- a write failed behind its last byte
    pub last_failed : (c : Scene S Told) → taken ≤ most_bytes → Took k j [] → IfSome k (λ rest. rest ≡ []) → ((before : Scene S Told) (script : List ℕ) → Underway V before b waits p script → (last : Stand S) × Ran S TextsFront (whole (reads_of V.read script)) before c last) → Interrupted S V.read a c l j
    last_failed c within took end cuts =
        let cut = cuts a h.script h.underway in
        record {
          script = h.script;
          took = took_script took;
          within = omega (arith, h.size);
          known = whole (reads_of V.read h.script);
          of_taken = refl;
          of_whole = of_end l j h.script (λ all. reads_of V.read all ≡ reads_of V.read h.script) (took_script took) (took_end k j [] took end) refl;
          last = cut.0;
          ran = cut.1;
        }
