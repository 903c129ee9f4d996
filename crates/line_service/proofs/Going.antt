-- Events behind events, and the counts, turns and answers of both.
use Rattle.std.proofs.Common.{◌≡◌, ℕ, List, [], ◌∷◌, ◌++◌, length, Option, None, Some, Result, Ok, Err, refl, sym, ap, subst, ◌∙◌, append_assoc, add-zero, zero-add, add_assoc, arith}
use Rattle.std.proofs.lemmas.List.{append-nil}
use Rattle.vm_ids.specs.Counting.{MapperCounts, Rise, counts_sum, no_counts}
use Rattle.vm_model.specs.Events.{Stand, steps_of}
use Rattle.vm_model.specs.Steps.{Semantics, Step, rises_of}
use Rattle.vm_model.specs.Turns.{turns_of}
use Rattle.vm_model.proofs.WholeRuns.Growing.{gives_then, leads_then, parked_along, parked_after, steps_of-append, turns_of-append}
use Rattle.line_service.specs.Going.{Goes, GoesOr, IsScript, Known, Scene, Turned, Writing}
use Rattle.line_service.specs.Going.Known.{begins, whole}
use Rattle.line_service.specs.Putting.{Puts, PutsAll, PutsOr, PutsTillLast}

-- counts

sum_none : (x : MapperCounts) → counts_sum x no_counts ≡ x
sum_none x = λ i. record { faults = add-zero x.faults i; pulls = add-zero x.pulls i; pushes = add-zero x.pushes i }

none_sum : (x : MapperCounts) → counts_sum no_counts x ≡ x
none_sum x = λ i. record { faults = zero-add x.faults i; pulls = zero-add x.pulls i; pushes = zero-add x.pushes i }

sum_assoc : (x y z : MapperCounts) → counts_sum (counts_sum x y) z ≡ counts_sum x (counts_sum y z)
sum_assoc x y z = λ i. record { faults = add_assoc x.faults y.faults z.faults i; pulls = add_assoc x.pulls y.pulls z.pulls i; pushes = add_assoc x.pushes y.pushes z.pushes i }

pub rises_of-append : {R : Type 0} (xs ys : List (Step R)) → rises_of (xs ++ ys) ≡ counts_sum (rises_of xs) (rises_of ys)
rises_of-append [] ys = sym (none_sum (rises_of ys))
rises_of-append (x ∷ xs) ys = ap (counts_sum x.rises) (rises_of-append xs ys) ∙ sym (sum_assoc x.rises (rises_of xs) (rises_of ys))

rise_sum : (a b c x y : MapperCounts) → Rise a b x → Rise b c y → Rise a c (counts_sum x y)
rise_sum a b c x y p q = record {
  faults_later = omega arith;
  pulls_later = omega arith;
  pushes_later = omega arith;
  faults = λ h. omega (arith, p.faults, q.faults);
  pulls = λ h. omega (arith, p.pulls, q.pulls);
  pushes = λ h. omega (arith, p.pushes, q.pushes);
}

pub rise_none : (a : MapperCounts) → Rise a a no_counts
rise_none a = record {
  faults_later = omega arith;
  pulls_later = omega arith;
  pushes_later = omega arith;
  faults = λ h. omega arith;
  pulls = λ h. omega arith;
  pushes = λ h. omega arith;
}

-- the counts rose by one step
pub rise_one : {R : Type 0} (a b : MapperCounts) (step : Step R) → Rise a b step.rises → Rise a b (rises_of (step ∷ []))
rise_one a b step p = subst (Rise a b) (sym (sum_none step.rises)) p

pub rise_then : {R : Type 0} (a b c : MapperCounts) (xs ys : List (Step R)) → Rise a b (rises_of xs) → Rise b c (rises_of ys) → Rise a c (rises_of (xs ++ ys))
rise_then a b c xs ys p q = subst (Rise a c) (sym (rises_of-append xs ys)) (rise_sum a b c (rises_of xs) (rises_of ys) p q)

-- answers that are put

pub puts_then : {W R : Type 0} (puts : Puts W) (a : W) (xs : List (Step R)) (b : W) (ys : List (Step R)) (c : W) → PutsAll puts a xs b → PutsAll puts b ys c → PutsAll puts a (xs ++ ys) c
puts_then puts a [] b ys c p q = subst (λ w. PutsAll puts w ys c) p q
puts_then puts a (x ∷ xs) b ys c p q = (p.0, p.1, puts_then puts p.0 xs b ys c p.2 q)

pub puts_till : {W R : Type 0} (puts fails : Puts W) (a : W) (xs : List (Step R)) (b : W) (ys : List (Step R)) (c : W) → PutsAll puts a xs b → PutsTillLast puts fails b ys c → PutsTillLast puts fails a (xs ++ ys) c
puts_till puts fails a xs b ys c p q = record {
  front = xs ++ q.front;
  last = q.last;
  parts = ap (λ zs. xs ++ zs) q.parts ∙ sym (append_assoc xs q.front (q.last ∷ []));
  between = q.between;
  put = puts_then puts a xs b q.front q.between p q.put;
  failed = q.failed;
}

pub puts_or : {T E W R : Type 0} (r : Result T E) (puts fails : Puts W) (a : W) (xs : List (Step R)) (b : W) (ys : List (Step R)) (c : W) → PutsAll puts a xs b → PutsOr r puts fails b ys c → PutsOr r puts fails a (xs ++ ys) c
puts_or (Ok x) puts fails a xs b ys c p q = puts_then puts a xs b ys c p q
puts_or (Err e) puts fails a xs b ys c p q = puts_till puts fails a xs b ys c p q

-- turns

pub turned_none : (a : Option (List (Option ℕ))) → Turned a [] a
turned_none None = tt
turned_none (Some told) = refl

pub turned_then : (a : Option (List (Option ℕ))) (xs : List (ℕ × Option ℕ)) (b : Option (List (Option ℕ))) (ys : List (ℕ × Option ℕ)) (c : Option (List (Option ℕ))) → Turned a xs b → Turned b ys c → Turned a (xs ++ ys) c
turned_then None xs b ys c p q = tt
turned_then (Some told) xs None ys c p q = absurd p
turned_then (Some told) xs (Some left) ys None p q = absurd q
turned_then (Some told) xs (Some left) ys (Some last) p q = gives_then told xs left ys last p q

-- scripts

-- what is known of a script is so of the lines that are known
abbrev pub known_reads : {R : Type 0} → Known R → List R
known_reads (begins reads) = reads
known_reads (whole reads) = reads

known_itself : {R : Type 0} (known : Known R) → IsScript known (known_reads known)
known_itself (begins reads) = record { back = []; parts = sym (append-nil reads) }
known_itself (whole reads) = refl

-- events

-- what becomes of what was written by some answers, and by more behind them
abbrev pub Joins : {W R : Type 0} → (A B C : Writing W R) → Type 0
Joins {W} {R} A B C = (a : W) (xs : List (Step R)) (b : W) (ys : List (Step R)) (c : W) → A a xs b → B b ys c → C a (xs ++ ys) c

module _ (S : Semantics) where
  pub goes_none : {W : Type 0} (puts : Puts W) (known : Known S.Read) (a : Scene S W) (s : Stand S) → Goes S (PutsAll puts) known a a s s
  goes_none puts known a s = record {
    events = [];
    leads = λ script h. refl;
    turned = turned_none a.turns;
    rose = rise_none a.counts;
    put = refl;
  }

  pub goes_joined : {W : Type 0} (A B C : Writing W S.Read) → Joins A B C → (known : Known S.Read) (a b c : Scene S W) (s t u : Stand S) → Goes S A known a b s t → Goes S B known b c t u → Goes S C known a c s u
  goes_joined A B C joins known a b c s t u p q =
      let count : parked_after (length s.parked) p.events ≡ length t.parked =
      parked_along S (known_reads known) s p.events t (p.leads (known_reads known) (known_itself known)) in
      let asked : turns_of (length s.parked) p.events ++ turns_of (length t.parked) q.events ≡ turns_of (length s.parked) (p.events ++ q.events) =
      ap (λ (n : ℕ). turns_of (length s.parked) p.events ++ turns_of n q.events) (sym count) ∙ sym (turns_of-append (length s.parked) p.events q.events) in
      let steps : steps_of p.events ++ steps_of q.events ≡ steps_of (p.events ++ q.events) = sym (steps_of-append p.events q.events) in
      record {
        events = p.events ++ q.events;
        leads = λ script h. leads_then S script s p.events t q.events u (p.leads script h) (q.leads script h);
        turned = subst (λ (l : List (ℕ × Option ℕ)). Turned a.turns l c.turns) asked (turned_then a.turns (turns_of (length s.parked) p.events) b.turns (turns_of (length t.parked) q.events) c.turns p.turned q.turned);
        rose = subst (λ (l : List (Step S.Read)). Rise a.counts c.counts (rises_of l)) steps (rise_then a.counts b.counts c.counts (steps_of p.events) (steps_of q.events) p.rose q.rose);
        put = subst (λ (l : List (Step S.Read)). C a.written l c.written) steps (joins a.written (steps_of p.events) b.written (steps_of q.events) c.written p.put q.put);
      }

  module _ {W : Type 0} (puts fails : Puts W) (known : Known S.Read) where
    pub goes_then : (a b c : Scene S W) (s t u : Stand S) → Goes S (PutsAll puts) known a b s t → Goes S (PutsAll puts) known b c t u → Goes S (PutsAll puts) known a c s u
    goes_then a b c s t u p q = goes_joined (PutsAll puts) (PutsAll puts) (PutsAll puts) (λ v xs w ys x. puts_then puts v xs w ys x) known a b c s t u p q

    pub goes_till : (a b c : Scene S W) (s t u : Stand S) → Goes S (PutsAll puts) known a b s t → Goes S (PutsTillLast puts fails) known b c t u → Goes S (PutsTillLast puts fails) known a c s u
    goes_till a b c s t u p q = goes_joined (PutsAll puts) (PutsTillLast puts fails) (PutsTillLast puts fails) (λ v xs w ys x. puts_till puts fails v xs w ys x) known a b c s t u p q

    pub goes_or : {T E : Type 0} (r : Result T E) (a b c : Scene S W) (s t u : Stand S) → Goes S (PutsAll puts) known a b s t → GoesOr r S (PutsAll puts) (PutsTillLast puts fails) known b c t u → GoesOr r S (PutsAll puts) (PutsTillLast puts fails) known a c s u
    goes_or (Ok x) a b c s t u p q = goes_then a b c s t u p q
    goes_or (Err e) a b c s t u p q = (q.0, q.1, goes_till a b c s t q.0 p q.2)
