-- The mapper is asked whether pages may be written, one after the other.
use Rattle.std.proofs.Common.{◌≡◌, ℕ, ◌+◌, ◌<◌, ◌≤◌, Bool, true, false, Option, Some, None, sym, ap, ◌∙◌, arith, inl, inr}
use Rattle.std.specs.Prelude.{IfOk, IfSome, IsSome, Result, Ok, Err, not}
use Rattle.std.specs.Option.{option_map_or}
use Rattle.std.specs.List.{list_any, range_with_len}
use Rattle.std.proofs.lemmas.Bool.{cases_eq}
use Rattle.std.proofs.lemmas.List.FromFn.{get_or-range_with_len, length-range_with_len}
use Rattle.std.proofs.lemmas.List.Folds.{list_any_at, list_any_none}
use Rattle.vm_ids.specs.Counting.{MapperCounts, counts_sum}
use Rattle.vm_ids.specs.Denying.{denies}
use Rattle.vm_ids.specs.Held.{Held, Segments, page_of, segments_in}
use Rattle.vm_model.specs.Answering.{is_denied_page}
use Rattle.vm_model.specs.Machine.{Machine, segment_of}
use Rattle.vm_model.specs.Outcome.{IsNamed}
use Rattle.vm_port.specs.declared.traits.mapper.Mapper.{Ghosts as GhostsOfMapper}
use Rattle.gmi_calls.specs.Calling.{NoTraffic}
use Rattle.gmi_calls.specs.Reaching.{Asked, HasPages}
use Rattle.gmi_calls.proofs.Rising.{no_pages_sum, rise_then}
use Rattle.gmi_calls.proofs.Asking.{denied_is, granted_is}

-- none of the pages that were passed is denied
abbrev pub NonePassed : Option Held → Machine → ℕ → ℕ → ℕ → Type 0
NonePassed told m n first past = IfSome told (λ h. (q : ℕ) → first ≤ q → q < past → is_denied_page m (segments_in h) n q ≡ false)

pub none_passed : (told : Option Held) (m : Machine) (n first past : ℕ) → past ≤ first → NonePassed told m n first past
none_passed None m n first past ends = tt
none_passed (Some h) m n first past ends = λ q from below. absurd (omega (arith, ends, from, below))

-- one more
pub passed_more : (told now : Option Held) (m : Machine) (n first page next : ℕ) (may : Bool) → now ≡ told → next ≡ page + 1 → may ≡ true → IfSome now (λ h. may ≡ not (is_denied_page m (segments_in h) n page)) → NonePassed told m n first page → NonePassed told m n first next
passed_more None now m n first page next may same step granted asked before = tt
passed_more (Some h) None m n first page next may same step granted asked before = absurd (cc same)
passed_more (Some h) (Some k) m n first page next may same step granted asked before = λ q from below. elim (cases_eq q page) [
  | inl this ↦ (
      ap (is_denied_page m (segments_in h) n) this ∙ (let e : k ≡ h = cc same in ap (λ (x : Held). is_denied_page m (segments_in x) n page) (sym e)) ∙ granted_is may (is_denied_page m (segments_in k) n page) granted asked)
  | inr other ↦ before q from (omega (arith, below, other, step))
]

-- so many were asked for
pub all_passed : (told : Option Held) (m : Machine) (n first pages past : ℕ) → first + pages ≤ past → NonePassed told m n first past → IfSome told (λ h. true ≡ not (list_any (is_denied_page m (segments_in h) n) (range_with_len first pages)))
all_passed None m n first pages past ends none = tt
all_passed (Some h) m n first pages past ends none =
    ap not (sym (list_any_none (is_denied_page m (segments_in h) n) (range_with_len first pages) (λ i d less.
    let small : i < pages = omega (arith, less, length-range_with_len first pages) in
    ap (is_denied_page m (segments_in h) n) (get_or-range_with_len first pages i d small) ∙ none (first + i) (omega arith) (omega (arith, small, ends)))))

-- one is denied
pub one_is_denied : (told now : Option Held) (m : Machine) (n first pages i : ℕ) (may : Bool) → now ≡ told → i < pages → may ≡ false → IfSome now (λ h. may ≡ not (is_denied_page m (segments_in h) n (first + i)))
    → IfSome told (λ h. false ≡ not (list_any (is_denied_page m (segments_in h) n) (range_with_len first pages)))
one_is_denied None now m n first pages i may same small denied asked = tt
one_is_denied (Some h) None m n first pages i may same small denied asked = absurd (cc same)
one_is_denied (Some h) (Some k) m n first pages i may same small denied asked =
    let e : k ≡ h = cc same in
    ap not (sym (list_any_at (is_denied_page m (segments_in h) n) (range_with_len first pages) i 0 (omega (arith, small, length-range_with_len first pages))
    (ap (is_denied_page m (segments_in h) n) (get_or-range_with_len first pages i 0 small) ∙ ap (λ (x : Held). is_denied_page m (segments_in x) n (first + i)) (sym e) ∙ denied_is may (is_denied_page m (segments_in k) n (first + i)) denied asked)))

-- One page

pub has_one : (told : Option Held) (seg page : ℕ) → IfSome told (HasPages seg page 1) → IfSome told (λ h. IsSome (page_of h seg page))
has_one None seg page h = tt
has_one (Some k) seg page h = h page (omega arith) (omega arith)

denied_by : (m : Machine) (n page : ℕ) (o : Option ℕ) (h : Segments) → segment_of m n ≡ o → is_denied_page m h n page ≡ option_map_or (λ seg. denies h.denied seg page) o false
denied_by m n page o h e = ap (λ (x : Option ℕ). option_map_or (λ seg. denies h.denied seg page) x false) e

pub may_one : {E : Type 0} (m : Machine) (n seg page : ℕ) (told : Option Held) (r : Result Bool E) → segment_of m n ≡ Some seg → IfOk r (λ may. IfSome told (λ h. may ≡ not (denies h.denied seg page)))
    → IfOk r (λ may. IfSome told (λ h. may ≡ not (is_denied_page m (segments_in h) n page)))
may_one m n seg page told (Err e) named h = tt
may_one m n seg page None (Ok may) named h = tt
may_one m n seg page (Some k) (Ok may) named h = h ∙ ap not (sym (denied_by m n page (Some seg) (segments_in k) named))

pub unnamed_free : (m : Machine) (n page : ℕ) (told : Option Held) → segment_of m n ≡ None → IfSome told (λ h. true ≡ not (is_denied_page m (segments_in h) n page))
unnamed_free m n page None e = tt
unnamed_free m n page (Some k) e = ap not (sym (denied_by m n page None (segments_in k) e))

pub named_ok : {E : Type 0} (m : Machine) (n : ℕ) (r : Result Bool E) → IsNamed m n → IfOk r (λ may. may ≡ false → IsNamed m n)
named_ok m n (Ok may) named = λ f. named
named_ok m n (Err e) named = tt

-- The mapper was asked twice

quiet_both : (a b c : MapperCounts) → NoTraffic a b → NoTraffic b c → NoTraffic a c
quiet_both a b c x y = record {
  pulled = λ h. let e : c.pulls ≡ b.pulls + 0 = y.pulled h in omega (arith, e, x.pulled, h);
  pushed = λ h. let e : c.pushes ≡ b.pushes + 0 = y.pushed h in omega (arith, e, x.pushed, h);
}

module _ {X : Type 0} (M : GhostsOfMapper X) (a b c : X) where
  pub asked_ok : {T U V E F G : Type 0} {r : Result T E} {s : Result U F} → Asked M a b r → Asked M b c s → (x : V) → Asked M a c (let t : Result V G = Ok x in t)
  asked_ok p q x = record {
    held = q.held ∙ p.held;
    reached = record { rises = counts_sum p.reached.rises q.reached.rises; rose = rise_then (M.counts a) (M.counts b) (M.counts c) p.reached.rises q.reached.rises p.reached.rose q.reached.rose; failed = tt };
    no_pages = no_pages_sum p.reached.rises q.reached.rises p.no_pages q.no_pages;
    quiet = quiet_both (M.counts a) (M.counts b) (M.counts c) p.quiet q.quiet;
    page = q.page ∙ p.page;
  }

  pub asked_err : {T U V E F G : Type 0} {r : Result T E} {e : F} → Asked M a b r → Asked M b c (let s : Result U F = Err e in s) → (x : G) → Asked M a c (let t : Result V G = Err x in t)
  asked_err p q x = record {
    held = q.held ∙ p.held;
    reached = record {
      rises = counts_sum p.reached.rises q.reached.rises;
      rose = rise_then (M.counts a) (M.counts b) (M.counts c) p.reached.rises q.reached.rises p.reached.rose q.reached.rose;
      failed = omega (arith, q.reached.failed);
    };
    no_pages = no_pages_sum p.reached.rises q.reached.rises p.no_pages q.no_pages;
    quiet = quiet_both (M.counts a) (M.counts b) (M.counts c) p.quiet q.quiet;
    page = q.page ∙ p.page;
  }
