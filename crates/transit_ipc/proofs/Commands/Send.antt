-- A send is answered: refused at once, or by what its calls of the manager came to.
use Rattle.std.proofs.Common.{◌≡◌, inl, inr, ◌⊎◌, ◌==◌, ℕ, zero, suc, ◌^◌, ◌<◌, ◌≤◌, true, false, List, [], ◌∷◌, ◌++◌, length, set, Option, Some, None, refl, sym, ap, subst, ◌∙◌, arith, Bool}
use Rattle.std.specs.Prelude.{Ok, Err, IsSome, Result, slice_get}
use Rattle.std.specs.Bool.{IsTrue}
use Rattle.std.specs.VecDeque.{deque_capacity}
use Rattle.std.proofs.lemmas.Bool.Decides.{nat_tests}
use Rattle.std.proofs.lemmas.Option.{slice_get_within}
use Rattle.vm_ids.specs.declared.command.Command.TheVariants as vm_commands
use Rattle.vm_ids.specs.declared.command.PortCommand.{PortCommand}
use Rattle.vm_ids.specs.declared.command.PortCommand.TheVariants as commands
use Rattle.vm_ids.specs.declared.refusal.Refusal.TheVariants as refusals
use Rattle.vm_ids.specs.declared.reply.Reply.TheVariants as replies
use Rattle.vm_ids.specs.declared.reply.Trouble.TheVariants as troubles
use Rattle.vm_model.proofs.Parts.Lists.{is_there}
use Rattle.vm_model.proofs.Parts.ListParts.{numbered_past}
use Rattle.gmi_calls.proofs.Still.{without_mapper}
use Rattle.interface_callers.proofs.Words.{Answer, Cache, CacheId, CallDone, Extent, Fits, GhostsOfGmi, GhostsOfMapper, Machine, MapperCall, MapperCounts, OutcomeAt, PortId, Segments, Trouble, cache_of, done_by, is_mapped, meanings_of, segments_of}
use Rattle.interface_callers.proofs.Blanks.{without}
use Rattle.interface_callers.proofs.Copies.{copied_at}
use Rattle.interface_callers.proofs.Temporary.{destroy_done}
use Rattle.interface_callers.proofs.Making.{IsMade, IsUnmade, few_caches, fresh_cache, made_at, made_number, unmade_at}
use Rattle.std.proofs.lemmas.List.{length-replicate}
use Rattle.transit_ipc.specs.Answering.{put_last}
use Rattle.transit_ipc.specs.Calling.{PortCall}
use Rattle.transit_ipc.specs.Inner.{sent_span}
use Rattle.transit_ipc.specs.Outcome.{Outcome}
use Rattle.transit_ipc.specs.PortMachine.{PortMachine, put_port, take_number}
use Rattle.transit_ipc.specs.Seen.{memory_seen, port_seen, ports_seen}
use Rattle.transit_ipc.specs.Transit.{IsTable, is_transit}
use Rattle.transit_ipc.specs.Tying.{AreTied, CanCall}
use Rattle.transit_ipc.specs.declared.port.Message.{Message}
use Rattle.transit_ipc.specs.declared.port.Port.{Port}
use Rattle.transit_ipc.specs.declared.table.Ports.{Ports}
use Rattle.transit_ipc.proofs.Ties.CacheAppended.{appended, at_last, last_replaced, next_of, seen_sent, seen_taken, still_there, temporary_appended, tied_sent, tied_taken}
use Rattle.transit_ipc.proofs.Calling.CallAgain.{call_is}
use Rattle.transit_ipc.proofs.Calling.CallsSoFar.{Goes, goes_none, goes_on, mapped_alive, port_call, tied_none, tied_plain}
use Rattle.transit_ipc.proofs.Seeing.Seen.{length_seen}
use Rattle.transit_ipc.proofs.Commands.SendRows.{Ends, HasSent, ends, full, many, may, no_memory, nobody, unmapped}

-- what stands at a place
pub found_at : {A : Type 0} (xs : List A) (i : ℕ) → i < length xs → (x : A) × (slice_get xs i ≡ Some x)
found_at [] i h = absurd (omega (arith, h))
found_at (x ∷ xs) zero h = (x, refl)
found_at (x ∷ xs) (suc i) h = found_at xs i (omega (arith, h))

module _ {Manager X Chooser : Type 0} (M : GhostsOfMapper X) (G : GhostsOfGmi Manager X Chooser) (old : Ports Manager) (before : X) (can : CanCall G old (M.held before) (M.page_bytes before)) (port : PortId) (e : Extent) where
  abbrev m : Machine
  m = G.machine old.gmi (M.held before)

  abbrev ports : List Port
  ports = old.ports.items

  abbrev seen : PortMachine
  seen = ports_seen m ports

  abbrev t : AreTied m ports
  t = can.tied

  abbrev command : PortCommand
  command = commands.Send port e

  pub send_nobody : (port.0 ≡ 0) ⊎ (length ports < port.0) → PortCall M G before old command (Err (troubles.Refused refusals.NoPort)) before old
  send_nobody none = port_call M G old before can before old 0 (omega arith) (goes_none M G old before can) t command (Err (troubles.Refused refusals.NoPort)) (λ rises. tt) tt (λ h rises. nobody m ports t port e none)

  module _ (place : ℕ) (p : Port) (there : slice_get ports place ≡ Some p) (at : port.0 ≡ suc place) where
    pub send_full : (length p.messages.items == p.depth) ≡ true → PortCall M G before old command (Err (troubles.Refused refusals.PortFull)) before old
    send_full is = port_call M G old before can before old 0 (omega arith) (goes_none M G old before can) t command (Err (troubles.Refused refusals.PortFull)) (λ rises. tt) tt (λ h rises. full m ports t port e place p there at is)

    module _ (free : (length p.messages.items == p.depth) ≡ false) where
      pub less : length p.messages.items < p.depth
      less = let upto = t.deep place p there in grind (arith, nat_tests)

      -- there is room for the message
      pub has_room : length p.messages.items < deque_capacity p.messages
      has_room = omega (arith, less, t.roomy place p there)

      lacks : (trouble : Trouble) (n : Machine) → IsUnmade m e.pages (Err trouble) n → (h : Segments) (rises : MapperCounts) → Outcome seen command h (Err trouble) seen rises
      lacks trouble n l h rises = elim l.why [
        | inl w ↦ subst (λ (x : Trouble). Outcome seen command h (Err x) seen rises) (let both : Err trouble ≡ Err troubles.Memory = w.0 in let is : trouble ≡ troubles.Memory = cc both in sym is) (no_memory m ports t port e place p there at free w.1 h rises)
        | inr w ↦ subst (λ (x : Trouble). Outcome seen command h (Err x) seen rises) (let both : Err trouble ≡ Err (troubles.Refused refusals.TooMany) = w.0 in let is : trouble ≡ troubles.Refused refusals.TooMany = cc both in sym is) (many m ports t port e place p there at free w.1)
      ]

      abbrev made_call : Manager → Answer → Type 0
      made_call gmi a = CallDone (meanings_of G) old.gmi (vm_commands.MakeTemp e.pages) a gmi

      -- no cache was made
      pub send_lacks : (new : Ports Manager) → new.ports.items ≡ ports → (trouble : Trouble) → made_call new.gmi (Err trouble) → PortCall M G before old command (Err trouble) before new
      send_lacks new items trouble done =
          let call = without_mapper M (meanings_of G) before old.gmi can.valid (vm_commands.MakeTemp e.pages) (Err trouble) new.gmi done in
          let g0 = goes_none M G old before can in
          let it = call_is M G old.gmi new.gmi before before (vm_commands.MakeTemp e.pages) (Err trouble) [] g0.able call in
          let later : Machine = G.machine new.gmi (M.held before) in
          let was = unmade_at (segments_of (M.held before)) m (G.forest old.gmi (M.held before)) e.pages trouble later it.rises it.is.outcome in
          let tied : AreTied later ports = subst (λ (x : Machine). AreTied x ports) (sym was.next) t in
          let tied_now : AreTied later new.ports.items = subst (λ (ps : List Port). AreTied later ps) (sym items) tied in
          let same : ports_seen later new.ports.items ≡ seen = λ i. ports_seen (was.next i) (items i) in
          let g1 = goes_on M G old before can before before old.gmi new.gmi 0 g0 (vm_commands.MakeTemp e.pages) (Err trouble) call (tied_none later ports tied) in
          port_call M G old before can before new 1 (omega arith) g1 tied_now command (Err trouble) (λ rises. tt) tt
          (λ h rises. subst (λ (y : PortMachine). Outcome seen command h (Err trouble) y rises) (sym same) (lacks trouble later was h rises))

      module _ (gmi : Manager) (cache : CacheId) (done : made_call gmi (Ok (replies.Cache cache))) where
        abbrev call : MapperCall M (meanings_of G) before old.gmi (vm_commands.MakeTemp e.pages) (Ok (replies.Cache cache)) before gmi
        call = without_mapper M (meanings_of G) before old.gmi can.valid (vm_commands.MakeTemp e.pages) (Ok (replies.Cache cache)) gmi done

        made : IsMade (segments_of (M.held before)) m e.pages (Ok (replies.Cache cache)) (G.machine gmi (M.held before))
        made =
            let it = call_is M G old.gmi gmi before before (vm_commands.MakeTemp e.pages) (Ok (replies.Cache cache)) [] ((goes_none M G old before can).able) call in
            made_at (segments_of (M.held before)) m (G.forest old.gmi (M.held before)) e.pages (replies.Cache cache) (G.machine gmi (M.held before)) it.rises it.is.outcome

        abbrev fresh : Cache
        fresh = fresh_cache (segments_of (M.held before)) m.page_bytes e.pages

        number : cache.0 ≡ next_of m
        number = made_number (segments_of (M.held before)) m (G.machine gmi (M.held before)) e.pages cache made

        long : length fresh.pages ≡ e.pages
        long = length-replicate e.pages _

        -- the table has a place for its number
        pub has_place : (ps : List Port) (table : List Bool) → ps ≡ ports → IsTable ps table → cache.0 < length table
        has_place ps table same t =
            omega (arith, number, few_caches m e.pages made.room, t.covers (omega (arith, ap (λ (xs : List Port). length xs) same, slice_get_within ports place p there)))

        abbrev with_cache : Machine
        with_cache = appended m (Some fresh)

        temporary : (c : Cache) → Some fresh ≡ Some c → c.segment ≡ None
        temporary c f = let same : fresh ≡ c = cc f in ap (λ (y : Cache). y.segment) (sym same)

        alive : (k : ℕ) → IsTrue (is_mapped m k) → IsSome (cache_of with_cache k)
        alive k is =
            let c = is_there (cache_of m k) (mapped_alive m ports t k is) in
            subst (λ (o : Option Cache). IsSome o) (sym (still_there m (Some fresh) k c.0 c.1)) refl

        pub goes_made : Goes M G old before can before gmi 1
        goes_made = goes_on M G old before can before before old.gmi gmi 0 (goes_none M G old before can) (vm_commands.MakeTemp e.pages) (Ok (replies.Cache cache)) call
            (subst (λ (x : Machine). AreTied x []) (sym made.next) (tied_plain with_cache (temporary_appended m (Some fresh) t.temporary temporary) alive))

        pub made_few : G.made old.gmi ≤ 2 ^ 61 → G.made gmi ≤ 2 ^ 62
        made_few few = omega (arith, few, goes_made.made)

        pub fits_still : Fits (M.page_bytes before) (G.machine gmi (M.held before))
        fits_still = goes_made.able.fits

        abbrev x : Message
        x = record { cache = cache; pages = e.pages }

        module _ (some : 1 ≤ e.pages) (after : X) (next : Manager) (result : Result (Unit {0}) Trouble) (copy : MapperCall M (meanings_of G) before gmi (vm_commands.Copy (sent_span ports x e)) (done_by result) after next) where
          abbrev n : Machine
          n = G.machine next (M.held after)

          abbrev EndsSo : Result (Unit {0}) Trouble → Type 0
          EndsSo r = Ends m ports t port e place p there at free made.room x number fresh refl long r n

          ended : EndsSo result
          ended =
              let it = call_is M G gmi next before after (vm_commands.Copy (sent_span ports x e)) (done_by result) [] goes_made.able copy in
              let told : Option Segments = segments_of (M.held after) in
              let outcome : OutcomeAt told with_cache (G.forest gmi (M.held before)) (vm_commands.Copy (sent_span ports x e)) (done_by result) n it.rises =
              subst (λ (y : Machine). OutcomeAt told y (G.forest gmi (M.held before)) (vm_commands.Copy (sent_span ports x e)) (done_by result) n it.rises) made.next it.is.outcome in
              ends m ports t port e place p there at free made.room x number fresh refl long result n
              (copied_at told with_cache (sent_span ports x e) fresh (may m ports t port e place p there at free made.room x number fresh refl long) (G.forest gmi (M.held before)) result n it.rises outcome)

          goes_copied : AreTied n [] → Goes M G old before can after next 2
          goes_copied tied = goes_on M G old before can before after gmi next 1 goes_made (vm_commands.Copy (sent_span ports x e)) (done_by result) copy tied

        -- It is sent.
        pub send_done : (some : 1 ≤ e.pages) (after : X) (new : Ports Manager) → MapperCall M (meanings_of G) before gmi (vm_commands.Copy (sent_span ports x e)) (Ok replies.Done) after new.gmi
            → (q : Port) → new.ports.items ≡ set ports place q → q.depth ≡ p.depth → deque_capacity q.messages ≡ deque_capacity p.messages → q.messages.items ≡ p.messages.items ++ x ∷ []
            → PortCall M G before old command (Ok replies.Done) after new
        send_done some after new copy q items depth room pushed =
            let later : Machine = G.machine new.gmi (M.held after) in
            let h : HasSent m ports t port e place p there at free made.room x number fresh refl long later = ended some after new.gmi (Ok tt) copy in
            let tied : AreTied (appended m (Some h.cache)) (set ports place q) = tied_sent m ports t place p q there depth room x pushed number h.cache h.segment some h.pages less in
            let tied_now : AreTied later new.ports.items = subst (λ (ps : List Port). AreTied later ps) (sym items) (subst (λ (y : Machine). AreTied y (set ports place q)) (sym h.is) tied) in
            let same : ports_seen later new.ports.items ≡ put_port (take_number seen) port.0 (put_last h.cache.pages (port_seen m p)) =
            (λ i. ports_seen (h.is i) (items i)) ∙ seen_sent m ports t place p q there depth room x pushed number h.cache port.0 at in
            port_call M G old before can after new 2 (omega arith) (goes_copied some after new.gmi (Ok tt) copy (tied_none later new.ports.items tied_now)) tied_now command (Ok replies.Done) (λ rises. tt) tt
            (λ g rises. subst (λ (y : PortMachine). Outcome seen command g (Ok replies.Done) y rises) (sym same) (h.outcome g rises))

        module _ (some : 1 ≤ e.pages) (after : X) (next : Manager) (trouble : Trouble) (copy : MapperCall M (meanings_of G) before gmi (vm_commands.Copy (sent_span ports x e)) (Err trouble) after next) where
          abbrev stays : EndsSo some after next (Err trouble) copy (Err trouble)
          stays = ended some after next (Err trouble) copy

          tied_still : AreTied (G.machine next (M.held after)) []
          tied_still = subst (λ (y : Machine). AreTied y []) (sym stays.0) (tied_plain with_cache (temporary_appended m (Some fresh) t.temporary temporary) alive)

          pub goes_failed : Goes M G old before can after next 2
          goes_failed = goes_copied some after next (Err trouble) copy tied_still

          pub failed_few : G.made old.gmi ≤ 2 ^ 61 → G.made next ≤ 2 ^ 62
          failed_few few = omega (arith, few, goes_failed.made)

          pub failed_fits : Fits (M.page_bytes after) (G.machine next (M.held after))
          failed_fits = goes_failed.able.fits

          -- It isn't, and the cache is destroyed.
          pub send_failed : (last : X) (new : Ports Manager) (a : Answer) → MapperCall M (meanings_of G) after next (vm_commands.Destroy cache) a last new.gmi → new.ports.items ≡ ports → PortCall M G before old command (Err trouble) last new
          send_failed last new a destroy items =
              let it = call_is M G next new.gmi after last (vm_commands.Destroy cache) a [] goes_failed.able destroy in
              let n : Machine = G.machine next (M.held after) in
              let later : Machine = G.machine new.gmi (M.held last) in
              let there_still : cache_of n cache.0 ≡ Some fresh = ap (λ (y : Machine). cache_of y cache.0) stays.0 ∙ at_last m (Some fresh) cache.0 number in
              let free_still : is_mapped n cache.0 ≡ false = ap (λ (y : Machine). is_mapped y cache.0) stays.0 ∙ unmapped m ports t cache.0 (never_seen cache.0 number) in
              let is : later ≡ appended m None =
              (destroy_done (segments_of (M.held last)) n (G.forest next (M.held after)) cache fresh there_still refl free_still a later it.rises it.is.outcome).next
              ∙ ap (λ (y : Machine). without y cache.0) stays.0
              ∙ last_replaced m (Some fresh) None cache.0 number in
              let tied : AreTied later ports = subst (λ (y : Machine). AreTied y ports) (sym is) (tied_taken m ports t) in
              let tied_now : AreTied later new.ports.items = subst (λ (ps : List Port). AreTied later ps) (sym items) tied in
              let same : ports_seen later new.ports.items ≡ take_number seen = (λ i. ports_seen (is i) (items i)) ∙ seen_taken m ports t in
              port_call M G old before can last new 3 (omega arith)
              (goes_on M G old before can after last next new.gmi 2 goes_failed (vm_commands.Destroy cache) a destroy (tied_none later ports tied)) tied_now command (Err trouble) (λ rises. tt) tt
              (λ g rises. subst (λ (y : PortMachine). Outcome seen command g (Err trouble) y rises) (sym same) (stays.1 g rises))
            where
              never_seen : (k : ℕ) → k ≡ next_of m → cache_of (memory_seen m ports) k ≡ None
              never_seen k new = numbered_past (memory_seen m ports).caches k (omega (arith, new, length_seen (is_transit ports) 1 m.caches))
