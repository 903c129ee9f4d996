-- A store, after the mapper was asked.
use Rattle.std.proofs.Common.{◌≡◌, ℕ, ◌-◌, ◌<◌, ◌≤◌, Bool, true, false, List, length, set, Option, Some, refl, sym, ap, subst, ◌∙◌, arith}
use Rattle.std.specs.Prelude.{IfSome, IsOkAnd, Ok, Err, Result, not, option_map}
use Rattle.std.specs.List.{list_any, range_with_len}
use Rattle.std.proofs.lemmas.List.{length-set}
use Rattle.vm_ids.specs.Held.{Held, Segments, segments_in}
use Rattle.vm_ids.specs.declared.command.Command.{Command}
use Rattle.vm_ids.specs.declared.command.Command.TheVariants as commands
use Rattle.vm_ids.specs.declared.numbers.ActorId.{ActorId}
use Rattle.vm_ids.specs.declared.refusal.Refusal.{Refusal}
use Rattle.vm_ids.specs.declared.refusal.Refusal.TheVariants as refusals
use Rattle.vm_ids.specs.declared.reply.FaultAt.TheVariants as faults
use Rattle.vm_ids.specs.declared.reply.Reply.TheVariants as replies
use Rattle.vm_ids.specs.declared.reply.Trouble.TheVariants as troubles
use Rattle.vm_model.specs.Allowed.{AllowedOutcome, AwaitsAccess, is_denied_place}
use Rattle.vm_model.specs.Answering.{Answer, is_denied_page, overwrite, refuse, reply, store_of, unless, write_at}
use Rattle.vm_model.specs.Machine.{Machine, live_pages}
use Rattle.vm_model.specs.Outcome.{IsNamed}
use Rattle.vm_model.specs.Place.{Place, place}
use Rattle.vm_model.proofs.Machines.Awaiting.{awaits, store_unless, unless_false}
use Rattle.vm_model.proofs.Parts.Lists.{at_number, sum_by_same}
use Rattle.vm_port.specs.declared.traits.mapper.Mapper.{Ghosts as GhostsOfMapper}
use Rattle.regions.specs.declared.region.Place as regions
use Rattle.contexts.specs.Actors.{machine_with}
use Rattle.gmi_calls.specs.Parking.{AccessCall}
use Rattle.gmi_calls.specs.Reaching.{Asked, NoPages}
use Rattle.gmi_calls.proofs.Accessing.{denied_call, failed_call, granted_call, range_allowed, range_denied, segments_for}
use Rattle.gmi_calls.proofs.Called.{eager_quiet}
use Rattle.flat_mm.specs.Accessing.{IsPlacedAt, place_at}
use Rattle.flat_mm.specs.Manager.{AreKept, IsManagerSound, IsValid, Manager, caches_in, flat, machine_in}
use Rattle.flat_mm.specs.Store as store
use Rattle.flat_mm.specs.Store.{AreWhole, Cache, Page, Store, live_in, size_of, with_page}
use Rattle.flat_mm.proofs.Accesses.{IsPageAt, kept_written, one_denied, written_machine}
use Rattle.flat_mm.proofs.Acting.{fits_less, whole_machine}
use Rattle.flat_mm.proofs.Calls.{flat_access}
use Rattle.flat_mm.proofs.Making.{plain_live}

-- as many live pages
put_live : (s : Store) (n k : ℕ) (p q : Page) (P : IsPageAt s.caches n k p) → live_in (with_page n k q s).caches ≡ live_in s.caches
put_live s n k p q P =
    ap (λ (o : Option Cache). live_in (set s.caches (n - 1) (option_map (store.put_page k q) o))) P.alive
    ∙ sum_by_same size_of s.caches (n - 1) (Some P.cache) (Some (store.put_page k q P.cache)) (at_number s.caches n P.cache P.alive) (length-set P.cache.pages k q)

-- what the mapper holds stays
pub kept_still : (told now : Option Held) (caches : List (Option Cache)) → now ≡ told → IfSome told (λ h. AreKept (segments_in h) caches) → IfSome now (λ h. AreKept (segments_in h) caches)
kept_still told now caches same kept = subst (λ (o : Option Held). IfSome o (λ h. AreKept (segments_in h) caches)) (sym same) kept

module _ {X : Type 0} (M : GhostsOfMapper X) (actor : ActorId) (address : ℕ) (piece : List ℕ) where
  abbrev command : Command
  command = commands.Store actor address piece

  -- it is refused before
  pub store_quiet : (a : X) (p : Manager) (r : Refusal) → IsValid p (M.held a) → ((h : Segments) → store_of (machine_in p) actor.0 address piece h ≡ refuse (machine_in p) r)
      → AccessCall M flat NoPages a p command (Err (troubles.Refused r)) a p
  store_quiet a p r valid row =
      let answer : Answer = Err (troubles.Refused r) in
      flat_access M a a p p command answer (fits_less p p command answer (λ m next. refl) (omega arith)) valid.kept
      (eager_quiet M a (machine_in p) (machine_in p) command answer tt valid.ready valid.ready.whole row tt)

  module _ {E : Type 0} (before after : X) (p : Manager) (r : Result Bool E) (at : regions.Place) (F : IsPlacedAt p actor.0 address (length piece) at) (writes : at.prot.write ≡ true) (asked : Asked M before after r) (valid : IsValid p (M.held before)) where
    abbrev m : Machine
    m = machine_in p

    abbrev here : Place
    here = place_at F.region at

    row : (h : Segments) → store_of m actor.0 address piece h ≡ unless (is_denied_place m h (place m actor.0 address (length piece))) refusals.WriteDenied m (reply replies.Done (write_at m here piece))
    row h = store_unless m actor.0 address piece h here F.is writes

    waits : AwaitsAccess m command
    waits = awaits m command (reply replies.Done (write_at m here piece)) row tt

    stays : IfSome (M.held after) (λ h. AreKept (segments_in h) p.store.caches)
    stays = kept_still (M.held before) (M.held after) p.store.caches asked.held valid.kept

    -- the mapper denies it
    pub store_denied : (may : Bool) → may ≡ false → (may ≡ false → IsNamed m at.cache.0) → IfSome (M.held before) (λ h. may ≡ not (list_any (is_denied_page m (segments_in h) at.cache.0) (range_with_len at.page.0 1)))
        → AccessCall M flat NoPages before p command (Err (troubles.Refused refusals.WriteDenied)) after p
    store_denied may f named answer =
        let D = range_denied m at.cache.0 at.page.0 1 (M.held before) may f (omega arith) named answer in
        let a : Answer = Err (troubles.Refused refusals.WriteDenied) in
        flat_access M before after p p command a (fits_less p p command a (λ m next. refl) (omega arith)) stays
        (denied_call M before after m command r asked valid.ready tt waits (D.0, D.1, ap (is_denied_place m D.0) F.is ∙ one_denied (is_denied_page m D.0 at.cache.0) at.page.0 true D.2) tt)

    -- the mapper fails
    pub store_failed : 0 < asked.reached.rises.faults → IsNamed m at.cache.0 → AccessCall M flat NoPages before p command (Err (troubles.Mapper (faults.Access at.page))) after p
    store_failed failed named =
        let a : Answer = Err (troubles.Mapper (faults.Access at.page)) in
        flat_access M before after p p command a (fits_less p p command a (λ m next. refl) (omega arith)) stays
        (failed_call M before after m command r asked valid.ready tt waits at.page failed
        (subst (λ (x : Result Place Refusal). IsOkAnd x (λ (y : Place). y.page ≡ at.page.0)) (sym F.is) refl, subst (λ (x : Result Place Refusal). IsOkAnd x (λ (y : Place). IsNamed m y.region.cache)) (sym F.is) named) tt)

    -- it is carried out
    pub store_granted : (n : ℕ) → IsManagerSound p.store p.actors n → (may : Bool) → may ≡ true → IfSome (M.held before) (λ h. may ≡ not (list_any (is_denied_page m (segments_in h) at.cache.0) (range_with_len at.page.0 1)))
        → (q : Page) → IsPageAt p.store.caches at.cache.0 at.page.0 q → (u : Store) → u ≡ with_page at.cache.0 at.page.0 (record { bytes = overwrite at.at piece q.bytes; changed = true }) p.store → AreWhole u
        → AccessCall M flat NoPages before p command (Ok replies.Done) after (record { store = u; actors = p.actors })
    store_granted n k may t answer q P u is whole =
        let new : Manager = record { store = u; actors = p.actors } in
        let x : Page = record { bytes = overwrite at.at piece q.bytes; changed = true } in
        let told = M.held before in
        let free = one_denied (is_denied_page m (segments_for told) at.cache.0) at.page.0 false (range_allowed m at.cache.0 at.page.0 1 told may t answer) in
        let next : machine_in new ≡ write_at m here piece =
        (λ i. machine_with (caches_in (is i)) (is i).frames p.actors) ∙ written_machine p.store p.actors at.cache.0 at.page.0 q x P here piece refl refl refl in
        let f : AllowedOutcome m command (Ok replies.Done) (machine_in new) = λ h d. row h ∙ ap (λ (b : Bool). unless b refusals.WriteDenied m (reply replies.Done (write_at m here piece))) d ∙ unless_false refusals.WriteDenied m (reply replies.Done (write_at m here piece)) ∙ ap (reply replies.Done) (sym next) in
        let live : live_pages (machine_in new) ≤ live_pages m = omega (arith, plain_live u.caches, plain_live p.store.caches, ap (λ (s : Store). live_in s.caches) is, put_live p.store at.cache.0 at.page.0 q x P) in
        let page : p.actors.page_bytes ≡ u.page_bytes = k.page ∙ sym (ap (λ (s : Store). s.page_bytes) is) in
        flat_access M before after p new command (Ok replies.Done) (fits_less p new command (Ok replies.Done) (λ m next. refl) live)
        (kept_still told (M.held after) u.caches asked.held (subst (λ (s : Store). IfSome told (λ h. AreKept (segments_in h) s.caches)) (sym is) (kept_written told p.store at.cache.0 at.page.0 q x P m refl refl free valid.kept)))
        (granted_call M before after m command r asked valid.ready tt (machine_in new) (Ok replies.Done) (whole_machine u p.actors page whole) f (ap (is_denied_place m (segments_for told)) F.is ∙ free) tt)
