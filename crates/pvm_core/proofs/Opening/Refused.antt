-- A segment was not opened: the answer.
use Rattle.std.proofs.Common.{◌≡◌, ℕ, ◌+◌, ◌<◌, ◌≤◌, List, [], length, replicate, Option, Some, None, refl, sym, ap, ◌∙◌, subst, arith, inl, inr}
use Rattle.std.specs.Prelude.{Err, sum_by}
use Rattle.std.proofs.lemmas.Bool.{cases_lt}
use Rattle.std.proofs.lemmas.List.{length-replicate}
use Rattle.vm_ids.specs.Counting.{MapperCounts, no_counts}
use Rattle.vm_ids.specs.Held.{Held, Segments, segments_in, segments_of}
use Rattle.vm_ids.specs.declared.command.Command.{Command}
use Rattle.vm_ids.specs.declared.command.Command.TheVariants as commands
use Rattle.vm_ids.specs.declared.numbers.SegId.{SegId}
use Rattle.vm_ids.specs.declared.refusal.Refusal.TheVariants as refusals
use Rattle.vm_ids.specs.declared.reply.FaultAt.TheVariants as faults
use Rattle.vm_ids.specs.declared.reply.Trouble.TheVariants as troubles
use Rattle.local_cache.specs.Arena.{page_count}
use Rattle.local_cache.specs.Whole as whole
use Rattle.vm_model.specs.declared.limits.TheConstants.{LIVE_PAGES, MOST_MADE}
use Rattle.vm_model.specs.Answering.{Answer, open_of}
use Rattle.vm_model.specs.Machine.{Page, zero_page}
use Rattle.vm_model.specs.Outcome.{NotRefusedButFor, Outcome, OutcomeAt}
use Rattle.vm_model.specs.PageForest.{PageForest}
use Rattle.vm_model.specs.Run.{AnswerIs}
use Rattle.pvm_core.specs.Manager.{IsValid, Manager, forest_of, machine_by, machine_of, state_at}
use Rattle.pvm_core.specs.Opening.{HasSegment, IsOpened}
use Rattle.pvm_core.proofs.Answering.Answered.{alike_itself, stayed}
use Rattle.pvm_core.proofs.Opening.Answer.{held_for, many, pages_for, zeros_in, zeros_there}
use Rattle.pvm_core.proofs.Opening.Rows.{many_live, none_held, open_row}
use Rattle.pvm_core.proofs.Meaning.Values.{blank_of, zeroed, zeroed_whole}

-- Where the manager stands for the same, and the answer is that over these segments where none are
-- told.
pub outcome_over : (p q : Manager) (h : Option Held) (z : Segments) (command : Command) (answer : Answer) (rises : MapperCounts) → whole.IsWhole p.caches → whole.IsWhole q.caches
    → ((f : PageForest) → Outcome (machine_by p f) (Some (forest_of p h)) command z answer (machine_by q f) rises)
    → ((k : Held) → h ≡ Some k → Outcome (machine_of p h) (Some (forest_of p h)) command (segments_in k) answer (machine_of q h) rises)
    → OutcomeAt (segments_of h) (machine_of p h) (Some (forest_of p h)) command answer (machine_of q h) rises
outcome_over p q None z command answer rises nodes then blind told = record {
  whole = machine_by p (zeroed p None);
  whole_next = machine_by q (zeroed p None);
  segments = z;
  whole_answer = answer;
  is = blank_of p (zeroed p None) nodes;
  is_next = blank_of q (zeroed p None) then;
  pages = zeroed_whole p None nodes;
  alike = alike_itself answer;
  outcome = blind (zeroed p None);
}
outcome_over p q (Some h) z command answer rises nodes then blind told = told h refl

module _ (p : Manager) (f : PageForest) (seg : SegId) (free : IsOpened p.caches seg → ⊥) (few : length p.caches.caches < MOST_MADE) where
  abbrev not_named : (n : ℕ) → whole.segment_of p.caches n ≡ Some (Some seg) → ⊥
  not_named n e = free (n, e)

  -- the machine refuses nothing but what a failed question may hide
  pub may_open : (held : Option (List Page)) → NotRefusedButFor faults.Opening (open_of (machine_by p f) seg.0 held).answer
  may_open None = subst (λ a. NotRefusedButFor faults.Opening a.answer) (sym (none_held p f seg not_named few)) tt
  may_open (Some pages) =
      let live = sum_by page_count p.caches.caches in
      elim (cases_lt LIVE_PAGES (live + length pages)) [
        | inl past ↦ subst (λ a. NotRefusedButFor faults.Opening a.answer) (sym (many_live p f seg not_named few pages live refl past)) tt
        | inr room ↦ subst (λ a. NotRefusedButFor faults.Opening a.answer) (sym (open_row p f seg not_named few pages live refl room)) tt
      ]

module _ (p q : Manager) (h : Option Held) (seg : SegId) (n : ℕ) (free : IsOpened p.caches seg → ⊥) (few : length p.caches.caches < MOST_MADE) (has : HasSegment h seg p.page_bytes n) (nodes : whole.IsWhole p.caches) (then : whole.IsWhole q.caches) (valid : IsValid q h) (forest : forest_of q h ≡ forest_of p h)
    (by : (f : PageForest) → machine_by q f ≡ machine_by p f) (live : ℕ) (is : live ≡ sum_by page_count p.caches.caches) where
  machine : machine_of q h ≡ machine_of p h
  machine = ap (machine_by q) forest ∙ by (forest_of p h)

  -- there is no room for so many live pages
  pub too_many : LIVE_PAGES < live + n → AnswerIs (state_at p h) (commands.OpenSegment seg) (Err (troubles.Refused refusals.TooMany)) [] no_counts (state_at q h)
  too_many past = stayed p q h (commands.OpenSegment seg) (Err (troubles.Refused refusals.TooMany)) no_counts valid forest refl tt tt
      (outcome_over p q h (zeros_in seg p.page_bytes n) (commands.OpenSegment seg) (Err (troubles.Refused refusals.TooMany)) no_counts nodes then
      (λ f. ap (open_of (machine_by p f) seg.0) (zeros_there seg p.page_bytes n)
      ∙ many_live p f seg (λ k e. free (k, e)) few (replicate n (zero_page p.page_bytes)) live is (omega (arith, past, length-replicate n (zero_page p.page_bytes)))
      ∙ ap (λ m. record { answer = Err (troubles.Refused refusals.TooMany); next = m }) (sym (by f)))
      (λ k e. ap (open_of (machine_of p h) seg.0) (held_for k seg p.page_bytes n (subst (λ g. HasSegment g seg p.page_bytes n) e has))
      ∙ many_live p (forest_of p h) seg (λ k e. free (k, e)) few (pages_for (Some k) seg n) live is (omega (arith, past, many (Some k) seg p.page_bytes n (subst (λ g. HasSegment g seg p.page_bytes n) e has)))
      ∙ ap (λ m. record { answer = Err (troubles.Refused refusals.TooMany); next = m }) (sym machine)))

  -- there is no memory for its nodes
  pub lacking : live + n ≤ LIVE_PAGES → AnswerIs (state_at p h) (commands.OpenSegment seg) (Err troubles.Memory) [] no_counts (state_at q h)
  lacking room = stayed p q h (commands.OpenSegment seg) (Err troubles.Memory) no_counts valid forest refl tt tt
      (outcome_over p q h (zeros_in seg p.page_bytes n) (commands.OpenSegment seg) (Err troubles.Memory) no_counts nodes then
      (λ f. (
        by f,
        tt,
        (
            let row = ap (open_of (machine_by p f) seg.0) (zeros_there seg p.page_bytes n) ∙ open_row p f seg (λ k e. free (k, e)) few (replicate n (zero_page p.page_bytes)) live is (omega (arith, room, length-replicate n (zero_page p.page_bytes))) in
            rw row tt),
      ))
      (λ k e. (
        machine,
        tt,
        (
            let row = ap (open_of (machine_of p h) seg.0) (held_for k seg p.page_bytes n (subst (λ g. HasSegment g seg p.page_bytes n) e has))
            ∙ open_row p (forest_of p h) seg (λ k e. free (k, e)) few (pages_for (Some k) seg n) live is (omega (arith, room, many (Some k) seg p.page_bytes n (subst (λ g. HasSegment g seg p.page_bytes n) e has))) in
            rw row tt),
      )))
