-- What calls of a mapper come to, one after the other.
use Rattle.std.proofs.Common.{◌≡◌, ℕ, List, [], ◌∷◌, ◌++◌, Option, Some, None, refl, sym, ap, ◌∙◌, arith}
use Rattle.std.specs.Prelude.{is_some, option_map, unwrap_or, IfSome}
use Rattle.std.proofs.lemmas.List.{length-append}
use Rattle.vm_ids.specs.Counting.{MapperCounts}
use Rattle.vm_ids.specs.Denying.{denies}
use Rattle.vm_ids.specs.Held.{Held, Segments, put_segment_page, segments_of}
use Rattle.vm_model.specs.Machine.{Machine}
use Rattle.vm_model.specs.Pushing.{MayPush, PushRule, page_named, segments_after}
use Rattle.residency.specs.Causes.{Later}
use Rattle.residency.proofs.Pushes.PushedPages.{all_both, all_then}
use Rattle.pvm_core.specs.Reaching.{Reach}

pub no_later : (c : MapperCounts) → Later c c
no_later c = record { faults = omega arith; pulls = omega arith; pushes = omega arith }

-- nothing is pushed
pub no_push : (m : Machine) (before after : Option Segments) → after ≡ before → PushRule m before [] after
no_push m before after e = record { may = tt; pushed = e }

pub reach_quiet : (m : Machine) (h g : Option Held) (c d : MapperCounts) → segments_of g ≡ segments_of h → Later c d → Reach m h g c d
reach_quiet m h g c d same later = record { later = later; pushes = []; few = λ below. (let l = later.pushes in omega (arith, l)); rule = no_push m (segments_of h) (segments_of g) same }

pub reach_none : (m : Machine) (h : Option Held) (c : MapperCounts) → Reach m h h c c
reach_none m h c = reach_quiet m h h c c refl (no_later c)

-- One after the other

pub after_append : (m : Machine) (ps qs : List (ℕ × ℕ)) (s : Option Segments) → segments_after m (ps ++ qs) s ≡ segments_after m qs (segments_after m ps s)
after_append m [] qs s = refl
after_append m (p ∷ ps) qs s = after_append m ps qs (option_map (put_segment_page p.0 p.1 (unwrap_or (page_named m p.0 p.1) [])) s)

-- whether segments are told stays, and so does what is denied
pub still_told : (m : Machine) (ps : List (ℕ × ℕ)) (s : Option Segments) → is_some (segments_after m ps s) ≡ is_some s
still_told m [] s = refl
still_told m (p ∷ ps) None = still_told m ps None
still_told m (p ∷ ps) (Some s) = still_told m ps (Some (put_segment_page p.0 p.1 (unwrap_or (page_named m p.0 p.1) []) s))

pub still_denied : (m : Machine) (ps : List (ℕ × ℕ)) (s : Option Segments) → option_map (λ (s : Segments). s.denied) (segments_after m ps s) ≡ option_map (λ (s : Segments). s.denied) s
still_denied m [] s = refl
still_denied m (p ∷ ps) None = still_denied m ps None
still_denied m (p ∷ ps) (Some s) = still_denied m ps (Some (put_segment_page p.0 p.1 (unwrap_or (page_named m p.0 p.1) []) s))

may_before : (m : Machine) (s t : Option Segments) → option_map (λ (s : Segments). s.denied) t ≡ option_map (λ (s : Segments). s.denied) s → (p : ℕ × ℕ) → MayPush m t p → MayPush m s p
may_before m None t same p may = tt
may_before m (Some s) None same p may = absurd (cc same)
may_before m (Some s) (Some t) same p may = (may.0, (let e : t.denied ≡ s.denied = cc same in ap (λ d. denies d p.0 p.1) (sym e) ∙ may.1))

pub push_then : (m : Machine) (s t u : Option Segments) (ps qs : List (ℕ × ℕ)) → PushRule m s ps t → PushRule m t qs u → PushRule m s (ps ++ qs) u
push_then m s t u ps qs p q = record {
  may = all_both (MayPush m s) ps qs p.may (all_then (MayPush m t) (MayPush m s) qs (may_before m s t (ap (option_map (λ (s : Segments). s.denied)) p.pushed ∙ still_denied m ps s)) q.may);
  pushed = q.pushed ∙ ap (segments_after m qs) p.pushed ∙ sym (after_append m ps qs s);
}

pub later_then : (c d e : MapperCounts) → Later c d → Later d e → Later c e
later_then c d e a b = record { faults = omega (arith, a.faults, b.faults); pulls = omega (arith, a.pulls, b.pulls); pushes = omega (arith, a.pushes, b.pushes) }

pub reach_then : (m : Machine) (h g k : Option Held) (c d e : MapperCounts) → Reach m h g c d → Reach m g k d e → Reach m h k c e
reach_then m h g k c d e a b = record {
  later = later_then c d e a.later b.later;
  pushes = a.pushes ++ b.pushes;
  few = λ below. (let l = b.later.pushes in let y = b.few below in let x = a.few (omega (arith, l, below)) in let n = length-append a.pushes b.pushes in omega (arith, x, y, n));
  rule = push_then m (segments_of h) (segments_of g) (segments_of k) a.pushes b.pushes a.rule b.rule;
}

module _ (m : Machine) (h g : Option Held) (c d : MapperCounts) (r : Reach m h g c d) where
  -- what the mapper holds is told still where it was
  pub reach_told : is_some (segments_of g) ≡ is_some (segments_of h)
  reach_told = ap is_some r.rule.pushed ∙ still_told m r.pushes (segments_of h)

  pub reach_denied : option_map (λ (s : Segments). s.denied) (segments_of g) ≡ option_map (λ (s : Segments). s.denied) (segments_of h)
  reach_denied = ap (option_map (λ (s : Segments). s.denied)) r.rule.pushed ∙ still_denied m r.pushes (segments_of h)

-- a fact of what is told goes on
pub as_told : (T : Type 0) (h g : Option Held) → is_some (segments_of g) ≡ is_some (segments_of h) → IfSome h (λ _. T) → IfSome g (λ _. T)
as_told T h None e x = tt
as_told T (Some h) (Some g) e x = x
as_told T None (Some g) e x = absurd (cc e)

pub as_segments : (T : Type 0) (h : Option Held) → IfSome h (λ _. T) → IfSome (segments_of h) (λ _. T)
as_segments T None x = tt
as_segments T (Some h) x = x
