-- What a mapper that was asked for the size of a segment tells.
use Rattle.std.proofs.Common.{◌≡◌, ℕ, suc, List, [], ◌∷◌, length, Option, Some, None, refl, sym, ap, ◌∙◌, arith}
use Rattle.std.specs.Prelude.{IfSome, IsSomeAnd, Result, option_and_then, option_map, slice_get}
use Rattle.std.specs.FinMap.{get}
use Rattle.std.specs.List.{All}
use Rattle.std.proofs.lemmas.List.Elements.{All-cons, All-nil}
use Rattle.vm_ids.specs.Counting.{Counted, MapperCounts, Rise, Rose, no_counts}
use Rattle.vm_ids.specs.Held.{Held}
use Rattle.vm_ids.specs.declared.numbers.SegId.{SegId}
use Rattle.vm_port.specs.Sizes.{HasPagesOf}
use Rattle.vm_model.specs.Machine.{Page}
use Rattle.pvm_core.specs.Opening.{ArePagesOf, HasSegment}

pub all_whole : (b : ℕ) (ps : List Page) → ((i : ℕ) (p : Page) → slice_get ps i ≡ Some p → length p ≡ b) → All (λ (p : Page). length p ≡ b) ps
all_whole b [] each = All-nil (λ (p : Page). length p ≡ b)
all_whole b (p ∷ ps) each = All-cons (λ (p : Page). length p ≡ b) p ps (each 0 p refl) (all_whole b ps (λ i q e. each (suc i) q e))

pub has_segment : (told : Option Held) (bytes : Option ℕ) (seg : SegId) (b n : ℕ) → IfSome told (λ h. Some n ≡ option_map (λ (ps : List Page). length ps) (get h.segments seg.0)) → IfSome told (λ h. IsSomeAnd bytes (HasPagesOf h)) → IfSome bytes (λ k. k ≡ b)
    → HasSegment told seg b n
has_segment None bytes seg b n size whole fits = tt
has_segment (Some h) None seg b n size whole fits = absurd whole
has_segment (Some h) (Some k) seg b n size whole fits = go (get h.segments seg.0) refl size
  where
    go : (o : Option (List Page)) → get h.segments seg.0 ≡ o → Some n ≡ option_map (λ (ps : List Page). length ps) o → IsSomeAnd o (ArePagesOf b n)
    go None e size = absurd (cc size)
    go (Some ps) e size = record {
      count = (let same : n ≡ length ps = cc size in sym same);
      whole = all_whole b ps (λ i p at. whole.pages seg.0 i p (ap (option_and_then (λ (ps : List Page). slice_get ps i)) e ∙ at) ∙ fits);
    }

pub no_segment : (o : Option (List Page)) → None ≡ option_map (λ (ps : List Page). length ps) o → o ≡ None
no_segment None e = refl
no_segment (Some ps) e = absurd (cc e)

pub quiet : {T E : Type 0} (c d : MapperCounts) (r : Result T E) → Counted 0 0 c d r → Rise c d no_counts
quiet c d r k = record {
  faults_later = k.faults.later;
  pulls_later = k.pulls_later;
  pushes_later = k.pushes_later;
  faults = λ below. (let l = k.faults.later in omega (arith, l));
  pulls = k.pulled;
  pushes = k.pushed;
}

-- a fault, and no pull and no push
abbrev pub one_fault : MapperCounts
one_fault = record { faults = 1; pulls = 0; pushes = 0 }

pub failed_rise : {T E : Type 0} (c d : MapperCounts) (r : Result T E) → Counted 0 0 c d r → Rose c.faults d.faults → Rise c d one_fault
failed_rise c d r k rose = record {
  faults_later = k.faults.later;
  pulls_later = k.pulls_later;
  pushes_later = k.pushes_later;
  faults = λ below. (let l = rose below in omega (arith, l));
  pulls = k.pulled;
  pushes = k.pushed;
}
