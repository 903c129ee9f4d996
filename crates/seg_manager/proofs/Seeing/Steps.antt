-- A step of segments whose outcome doesn't depend on bytes, where what is held is told and where it
-- isn't.
use Rattle.std.proofs.Common.{◌≡◌, ℕ, ◌+◌, Bool, true, false, cond, List, [], ◌∷◌, map, Option, Some, None, refl, sym, ap, subst, ◌∙◌}
use Rattle.std.specs.Prelude.{option_map}
use Rattle.vm_ids.specs.declared.command.KeepCommand.{KeepCommand}
use Rattle.interface_callers.proofs.Words.{Actor, Answer, Cache, Machine, MapperCounts, PageForest, Segments, blank, blank_cache}
use Rattle.interface_callers.proofs.Answers.{alike_self}
use Rattle.interface_callers.proofs.Blanks.{no_segments}
use Rattle.seg_manager.specs.Outcome.{Outcome}
use Rattle.seg_manager.specs.ReferenceMachine.{ReferenceMachine, goes, let_go, used, used_at}
use Rattle.seg_manager.specs.Seen.{openings_in, references_seen, whole_of}
use Rattle.seg_manager.specs.Stepping.{IsWholeFor, State, StepAt, blank_references}
use Rattle.seg_manager.specs.declared.tables.Named.{Named}
use Rattle.seg_manager.proofs.Seeing.WhichGo.{Caches, used_same}
use Rattle.seg_manager.proofs.Seeing.StoredPages.{GoesToo, used_twice}

-- the machine to which the definition leads, as it is seen then
abbrev pub IsSeen : Option Segments → State → State → ReferenceMachine → Type 0
IsSeen (Some h) before after next = after.references ≡ next
IsSeen None before after next = (before.references ≡ blank_references before.references) × (after.references ≡ blank_references next)

pub step_by : (before after : State) (command : KeepCommand) (a : Answer) (rises : MapperCounts) (next : ReferenceMachine) → ((r : ReferenceMachine) → IsWholeFor command r)
    → ((h : Segments) → (number : ℕ) × Outcome before.references None command h number a next rises) → IsSeen after.segments before after next → StepAt after.segments before command a rises after
step_by before after command a rises next any outcome seen = by after.segments refl seen
  where
    by : (o : Option Segments) → after.segments ≡ o → IsSeen o before after next → StepAt o before command a rises after
    by (Some h) e seen = let r = outcome h in (r.0, None, subst (λ (x : ReferenceMachine). Outcome before.references None command h r.0 a x rises) (sym seen) r.1)
    by None e seen = record {
      whole = before;
      whole_next = record { references = next; segments = after.segments };
      segments = no_segments;
      whole_answer = a;
      is = λ i. record { references = seen.0 i; segments = before.segments };
      is_next = λ i. record { references = seen.1 i; segments = after.segments };
      alike = alike_self a;
      leads = (let r = outcome no_segments in (any before.references, (r.0, None, r.1)));
    }

-- Without bytes the same caches go.

blank_at : (m : ReferenceMachine) (k : ℕ) (o : Option Cache) → option_map blank_cache (used_at m k o) ≡ used_at m k (option_map blank_cache o)
blank_at m k None = refl
blank_at m k (Some c) = by (goes m k c)
  where
    by : (b : Bool) → option_map blank_cache (cond b None (Some c)) ≡ cond b None (Some (blank_cache c))
    by true = refl
    by false = refl

pub blank_used : (m : ReferenceMachine) (k : ℕ) (xs : Caches) → map (option_map blank_cache) (used m k xs) ≡ used m k (map (option_map blank_cache) xs)
blank_used m k [] = refl
blank_used m k (x ∷ xs) = λ i. blank_at m k x i ∷ blank_used m (k + 1) xs i

-- where a machine has no bytes, neither has what is seen of it
pub seen_blank : (m : Machine) (cs : List Named) → m ≡ blank m → references_seen m None cs ≡ blank_references (references_seen m None cs)
seen_blank m cs bare = λ i. record {
  memory = record m { caches = (ap (used (whole_of m None cs) 1) (ap (λ (x : Machine). x.caches) bare) ∙ sym (blank_used (whole_of m None cs) 1 m.caches)) i };
  stored = λ seg. None;
  openings = openings_in cs;
}

-- The same where references go: by those of n, over what is left by those of m.
pub seen_gone : (m : Machine) (actors : List (Option Actor)) (n : ReferenceMachine) (was now : List Named) → m ≡ blank m → GoesToo (whole_of m None was) n → n.memory ≡ record (references_seen m None was).memory { actors = actors } → n.openings ≡ openings_in now
    → references_seen (record m { actors = actors }) None now ≡ blank_references (let_go n)
seen_gone m actors n was now bare too memory openings = λ i. record {
  memory = record (sym memory i) { caches = caches i };
  stored = λ seg. None;
  openings = sym openings i;
}
  where
    W : ReferenceMachine
    W = whole_of m None was

    V : ReferenceMachine
    V = whole_of (record m { actors = actors }) None now

    caches : used V 1 m.caches ≡ map (option_map blank_cache) (used n 1 n.memory.caches)
    caches =
        used_same n V (sym openings) (sym (ap (λ (x : Machine). x.actors) memory)) 1 m.caches
        ∙ sym (used_twice W n too 1 m.caches)
        ∙ ap (used n 1) (sym (ap (λ (x : Machine). x.caches) memory))
        ∙ ap (used n 1) (ap (λ (x : Machine). x.caches) memory ∙ ap (used W 1) (ap (λ (x : Machine). x.caches) bare) ∙ sym (blank_used W 1 m.caches) ∙ sym (ap (λ (x : Machine). map (option_map blank_cache) x.caches) memory))
        ∙ sym (blank_used n 1 n.memory.caches)

-- The same from a machine with more than is seen.
abbrev pub AreSeen : Option Segments → State → State → ReferenceMachine → ReferenceMachine → Type 0
AreSeen (Some h) before after whole next = (before.references ≡ whole) × (after.references ≡ next)
AreSeen None before after whole next = (before.references ≡ blank_references whole) × (after.references ≡ blank_references next)

pub step_whole : (before after : State) (command : KeepCommand) (a : Answer) (rises : MapperCounts) (whole next : ReferenceMachine) (f : Option PageForest) → ((r : ReferenceMachine) → IsWholeFor command r)
    → ((h : Segments) → (number : ℕ) × Outcome whole f command h number a next rises) → AreSeen after.segments before after whole next → StepAt after.segments before command a rises after
step_whole before after command a rises whole next f any outcome seen = by after.segments refl seen
  where
    by : (o : Option Segments) → after.segments ≡ o → AreSeen o before after whole next → StepAt o before command a rises after
    by (Some h) e seen = let r = outcome h in (r.0, f, subst (λ (x : ReferenceMachine). Outcome x f command h r.0 a after.references rises) (sym seen.0) (subst (λ (x : ReferenceMachine). Outcome whole f command h r.0 a x rises) (sym seen.1) r.1))
    by None e seen = record {
      whole = record { references = whole; segments = before.segments };
      whole_next = record { references = next; segments = after.segments };
      segments = no_segments;
      whole_answer = a;
      is = λ i. record { references = seen.0 i; segments = before.segments };
      is_next = λ i. record { references = seen.1 i; segments = after.segments };
      alike = alike_self a;
      leads = (let r = outcome no_segments in (any whole, (r.0, f, r.1)));
    }
