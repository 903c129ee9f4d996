-- How a copy or a move ends that is refused, or whose destination can't be readied.
use Rattle.std.proofs.Common.{◌≡◌, ◌≢◌, ℕ, ◌+◌, ◌≤◌, Some, refl, sym, ap, subst, ◌∙◌}
use Rattle.std.specs.Prelude.{Err, IfErr, Result}
use Rattle.std.proofs.lemmas.List.{append-nil}
use Rattle.vm_ids.specs.Counting.{Rose}
use Rattle.vm_ids.specs.declared.command.Command.{Command}
use Rattle.vm_ids.specs.declared.command.Extent.{Extent}
use Rattle.vm_ids.specs.declared.command.Span.{Span}
use Rattle.vm_ids.specs.declared.node_name.NodeName.{NodeName}
use Rattle.vm_ids.specs.declared.refusal.Refusal.{Refusal}
use Rattle.vm_ids.specs.declared.refusal.Refusal.TheVariants.{WriteDenied}
use Rattle.vm_ids.specs.declared.reply.FaultAt.{FaultAt}
use Rattle.vm_ids.specs.declared.reply.Trouble.{Trouble}
use Rattle.vm_ids.specs.declared.reply.Trouble.TheVariants as troubles
use Rattle.vm_port.specs.declared.traits.mapper.Mapper.{Ghosts}
use Rattle.local_cache.specs.Whole.{IsWhole, size_of}
use Rattle.vm_model.specs.Run.{CallIs}
use Rattle.gmi_calls.specs.Calling.{MapperCall, RaisesMade, done_by}
use Rattle.pvm_core.specs.Keeping.{CopiesNothing, FillsOnly, HasMoreRoom}
use Rattle.pvm_core.specs.Leaving.{ReplacesPages}
use Rattle.pvm_core.specs.Manager.{IsValid, Manager, machine_of, meaning, numbered, state_at}
use Rattle.pvm_core.specs.Saving.{CopiesSaved, IsBeforeSaves, IsNotReady, KeepsMachine, NeedsNoSave, NeedsNothing}
use Rattle.pvm_core.specs.Spans.{replaced}
use Rattle.pvm_core.specs.Writes.{GrantsWithin, OnlyAsked}
use Rattle.pvm_core.proofs.Answering.Recorded.{asks_before, quiet_traffic}
use Rattle.pvm_core.proofs.Readiness.Filled.{fills_but, fills_itself}
use Rattle.pvm_core.proofs.Readiness.Granted.{asked_itself, within_itself}
use Rattle.pvm_core.proofs.Spanning.Transferring.{IsTransfer, copies_itself, failed_copied, failed_made, failed_refused, transfer_failed}

-- by a mapper and a chooser, each as it was and as it is
module _ {X Y : Type 0} (M : Ghosts X) (m n : X) (y z : Y) (old q : Manager) where
  -- a call that is refused before the mapper is asked
  pub refused_first : (range : Extent) (gone : NodeName → Type 0) (refusal : Refusal) → refusal ≢ WriteDenied → ReplacesPages M range gone m y old (Err (troubles.Refused refusal)) m y old
  refused_first range gone refusal other = record {
    copies = refl;
    still = λ none. (asked_itself M m, refl, copies_itself old);
    idle = λ nothing. (refl, record { same = refl; slots = (0, sym (append-nil old.store.slots)) });
    fills = fills_itself range gone old;
    settled = tt;
    refused = λ r e before. (refl, refl);
    unready = λ trouble e only. absurd (other (only refusal (let k : trouble ≡ troubles.Refused refusal = cc e in k)));
    first = λ before. (asked_itself M m, refl);
    grants = within_itself range old.caches;
    writable = tt;
  }

  -- from p, which the call that readied the range of these pages knows as old
  pub unready : (p : Manager) → p ≡ old → (span : Span) (command : Command) (gone : NodeName → Type 0) → IsTransfer p span command → IsWhole p.caches → (count : ℕ) → size_of p.caches span.to.0 ≡ Some count → span.to_page.0 + span.pages ≤ count → (range : Extent) → range ≡ replaced span
      → (readied result : Result (Unit {0}) Trouble) (trouble : Trouble) → readied ≡ Err trouble → result ≡ Err trouble → IsValid old (M.held m)
      → IsValid q (M.held n) → KeepsMachine old q (M.held m) (M.held n) (M.counts m) (M.counts n) → IsWhole q.caches → IfErr readied (IsNotReady range old (M.held m) q (M.held n)) → ((at : FaultAt) → readied ≡ Err (troubles.Mapper at) → Rose (M.counts m).faults (M.counts n).faults) → M.page_bytes n ≡ M.page_bytes m
      → GrantsWithin range old.caches q.caches → FillsOnly range (λ x. ⊥) old q → IfErr readied (λ trouble. IsBeforeSaves trouble → OnlyAsked M m n × (z ≡ y)) → (NeedsNoSave old.caches range → OnlyAsked M m n × (z ≡ y) × CopiesNothing old q) → (NeedsNothing old.caches range → (n ≡ m) × HasMoreRoom old q)
      → MapperCall M meaning m old command (done_by result) n q × ReplacesPages M (replaced span) gone m y old result n z q
  unready p view span command gone T nodes count size within range is readied result trouble was gave valid now keeps then wrong rose page grants fills first still idle =
      let h = M.held m in
      let k = M.held n in
      let c = M.counts m in
      let d = M.counts n in
      let kept = subst (λ (p : Manager). KeepsMachine p q h k c d) (sym view) keeps in
      let before = subst (λ (p : Manager). IsValid p h) (sym view) valid in
      let told = subst (λ (r : Result (Unit {0}) Trouble). IfErr r (λ trouble. IsBeforeSaves trouble → OnlyAsked M m n × (z ≡ y))) was first in
      let out : IsNotReady (replaced span) p h q k trouble = subst (λ (e : Extent). IsNotReady e p h q k trouble) is (subst (λ (p : Manager). IsNotReady range p h q k trouble) (sym view) (subst (λ (r : Result (Unit {0}) Trouble). IfErr r (IsNotReady range old h q k)) was wrong)) in
      let call : MapperCall M meaning m old command (Err trouble) n q = record {
        valid = now;
        answers = subst (λ (p : Manager). CallIs c d (state_at p h) command (Err trouble) (state_at q k)) view (transfer_failed p q h k c d span command T kept nodes then before now count size within trouble out (λ at e. rose at (was ∙ ap (λ t. Err t) e)));
        asks_first = asks_before command trouble c d (λ before. quiet_traffic (told before).0.traffic);
        made = subst (λ (p : Manager). RaisesMade (machine_of p h) command (Err trouble) (machine_of q k) (numbered p) (numbered q)) view (failed_made p q h k c d span command T kept nodes trouble out);
        room = refl;
        page = page;
      } in
      let replaces : ReplacesPages M (replaced span) gone m y old (Err trouble) n z q = record {
        copies = subst (λ (p : Manager). CopiesSaved (replaced span) p h q (Err trouble)) view (failed_copied p q h k c d span command T kept nodes trouble out);
        still = λ none. still (subst (NeedsNoSave old.caches) (sym is) none);
        idle = λ nothing. idle (subst (NeedsNothing old.caches) (sym is) nothing);
        fills = fills_but (replaced span) gone old q (subst (λ (e : Extent). FillsOnly e (λ x. ⊥) old q) is fills);
        settled = tt;
        refused = λ r e other. absurd (failed_refused p q h k c d span command T kept nodes trouble out r (let k : trouble ≡ troubles.Refused r = cc e in k) other);
        unready = λ t e only. subst (λ (p : Manager). IsNotReady (replaced span) p h q k t) view (subst (IsNotReady (replaced span) p h q k) (let k : trouble ≡ t = cc e in k) out);
        first = told;
        grants = subst (λ (e : Extent). GrantsWithin e old.caches q.caches) is grants;
        writable = tt;
      } in
      subst (λ (r : Result (Unit {0}) Trouble). MapperCall M meaning m old command (done_by r) n q × ReplacesPages M (replaced span) gone m y old r n z q) (sym gave) (call, replaces)
