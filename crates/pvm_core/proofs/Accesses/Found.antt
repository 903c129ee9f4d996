-- Where a load finds a page.
use Rattle.local_cache.specs.Reading.{page_of}
use Rattle.std.specs.Option.{IsSome}
use Rattle.residency.specs.declared.miss.Miss.{Miss}
use Rattle.residency.specs.declared.miss.Miss.TheVariants.{Victim}
use Rattle.std.proofs.Common.{◌≡◌, ℕ, true, false, List, Option, Some, None, refl, sym, ap, subst, ◌∙◌, arith, Result, Err}
use Rattle.std.specs.Prelude.{IfSome, Ok, if◌then◌else◌, IsOk}
use Rattle.vm_ids.specs.Counting.{MapperCounts, RoseBy}
use Rattle.vm_ids.specs.Held.{Held}
use Rattle.vm_ids.specs.declared.numbers.FrameId.{FrameId}
use Rattle.vm_ids.specs.declared.numbers.NodeId.{NodeId}
use Rattle.vm_ids.specs.declared.numbers.PageNo.{PageNo}
use Rattle.vm_ids.specs.declared.reply.FaultAt.{FaultAt}
use Rattle.vm_ids.specs.declared.reply.Trouble.TheVariants as troubles
use Rattle.local_cache.specs.declared.own_state.OwnState.{OwnState}
use Rattle.local_cache.specs.declared.own_state.OwnState.TheVariants.{Absent, Zero, Resident, Slot, OnSegment}
use Rattle.local_cache.specs.Arena.{Arena}
use Rattle.local_cache.specs.Own.{own_of}
use Rattle.residency.specs.declared.store.Store.{Store}
use Rattle.residency.specs.Causes.{Traffic, pulls_for}
use Rattle.residency.specs.World.{HoldsPage, IsStoreRight, is_pulled, world}
use Rattle.residency.proofs.Worlds.Homes.{home}
use Rattle.fault_path.specs.Faults.{IsFound, is_at_hand, is_zero}
use Rattle.contexts.specs.Actors.{Actors}
use Rattle.pvm_core.specs.Access.{IsFoundIn, IsMissAt}
use Rattle.pvm_core.specs.Pieces.{bytes_found, fault_at}
use Rattle.pvm_core.proofs.Answering.Kept.{seen}

zero_is : (x : OwnState) → true ≡ is_zero x → x ≡ Zero
zero_is Absent e = absurd (cc e)
zero_is Zero e = refl
zero_is (Resident d) e = absurd (cc e)
zero_is (Slot s) e = absurd (cc e)
zero_is OnSegment e = absurd (cc e)

module _ (g : Option Held) (j : Option ℕ) (a b : Arena) (s : Store) (t : Actors) (right : IsStoreRight (world g j b s)) (o : NodeId) where
  pub found_in : (found : Option FrameId) → IsFound (world g j b s) o (own_of a o) found → (is_at_hand (own_of a o) ≡ true → b ≡ a) → IsFoundIn (seen b s t) o found
  found_in None f idle =
      let zero = zero_is (own_of a o) f.zero in
      ap (λ (k : Arena). own_of k o) (idle (ap is_at_hand zero)) ∙ zero
  found_in (Some n) f idle = ((home (world g j b s) n.0 o right f.bound.0 f.bound.1).resident, f.bound.1)

  -- what was pulled for it
  pub given_in : (last : Option (List ℕ)) (found : Option FrameId) → IsFound (world g j b s) o (own_of a o) found → IfSome found (λ f. HoldsPage (own_of a o) last s.frames f.0)
      → is_pulled (own_of a o) ≡ true → IfSome last (λ page. bytes_found s found ≡ page)
  given_in last None f holds slot = absurd (let e : is_pulled (own_of a o) ≡ false = ap is_pulled (zero_is (own_of a o) f.zero) in let k : true ≡ false = sym slot ∙ e in cc k)
  given_in last (Some n) f holds slot = holds.given slot

pub no_rise : (n : ℕ) → RoseBy 0 n n
no_rise n = λ low. omega arith

-- a page was pulled exactly where it was in a slot or on its segment
pub pulled_for : (x : OwnState) (c d : MapperCounts) (found : Option FrameId) → (is_zero x ≡ false → (pushes : ℕ) × Traffic (pulls_for {T = Option FrameId} (Ok found) x) pushes c d) → (is_at_hand x ≡ true → d ≡ c) → RoseBy (if is_pulled x then 1 else 0) c.pulls d.pulls
pulled_for Zero c d found made idle = subst (λ (k : MapperCounts). RoseBy 0 c.pulls k.pulls) (sym (idle refl)) (no_rise c.pulls)
pulled_for Absent c d found made idle = (made refl).1.pulled
pulled_for (Resident dirty) c d found made idle = (made refl).1.pulled
pulled_for (Slot s) c d found made idle = (made refl).1.pulled
pulled_for OnSegment c d found made idle = (made refl).1.pulled

-- nothing was pulled where a push failed
pub missed_pulls : (x : OwnState) (r : Result (Option FrameId) Miss) (c d : MapperCounts) → r ≡ Err Victim → (is_zero x ≡ false → (pushes : ℕ) × Traffic (pulls_for r x) pushes c d) → (is_at_hand x ≡ true → IsOk r) → RoseBy 0 c.pulls d.pulls
missed_pulls Zero r c d e made idle = absurd (let no : false ≡ true = subst IsOk e (idle refl) in cc no)
missed_pulls Absent r c d e made idle = subst (λ (q : Result (Option FrameId) Miss). RoseBy (pulls_for q Absent) c.pulls d.pulls) e (made refl).1.pulled
missed_pulls (Resident dirty) r c d e made idle = subst (λ (q : Result (Option FrameId) Miss). RoseBy (pulls_for q (Resident dirty)) c.pulls d.pulls) e (made refl).1.pulled
missed_pulls (Slot s) r c d e made idle = subst (λ (q : Result (Option FrameId) Miss). RoseBy (pulls_for q (Slot s)) c.pulls d.pulls) e (made refl).1.pulled
missed_pulls OnSegment r c d e made idle = subst (λ (q : Result (Option FrameId) Miss). RoseBy (pulls_for q OnSegment) c.pulls d.pulls) e (made refl).1.pulled

-- and so an access missed its page
pub missed_at : (x : OwnState) (r : Result (Option FrameId) Miss) (c d : MapperCounts) (miss : Miss) (page : PageNo) (at : FaultAt) → at ≡ fault_at miss page → r ≡ Err miss → (is_zero x ≡ false → (pushes : ℕ) × Traffic (pulls_for r x) pushes c d) → (is_at_hand x ≡ true → IsOk r) → IsMissAt c d (troubles.Mapper at)
missed_at x r c d miss page at is e made idle = record {
  miss = miss;
  page = page;
  is = ap (λ (f : FaultAt). troubles.Mapper f) is;
  no_pull = λ victim. missed_pulls x r c d (e ∙ ap (λ (m : Miss). Err m) victim) made idle;
}

-- a page that isn't at hand is pulled
pub pulled_one : (x : OwnState) (r : Result (Option FrameId) Miss) (found : Option FrameId) (c d : MapperCounts) → r ≡ Ok found → IsSome (page_of x) → is_at_hand x ≡ false → (is_zero x ≡ false → (pushes : ℕ) × Traffic (pulls_for r x) pushes c d) → RoseBy 1 c.pulls d.pulls
pulled_one Zero r found c d e some away made = absurd (cc away)
pulled_one Absent r found c d e some away made = absurd (cc some)
pulled_one (Resident dirty) r found c d e some away made = absurd (cc away)
pulled_one (Slot s) r found c d e some away made = subst (λ (q : Result (Option FrameId) Miss). RoseBy (pulls_for q (Slot s)) c.pulls d.pulls) e (made refl).1.pulled
pulled_one OnSegment r found c d e some away made = subst (λ (q : Result (Option FrameId) Miss). RoseBy (pulls_for q OnSegment) c.pulls d.pulls) e (made refl).1.pulled
