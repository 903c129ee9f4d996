-- Pages of a cache are taken from its segment again.
use Rattle.std.proofs.Common.{◌≡◌, ℕ, ◌+◌, ◌-◌, ◌<◌, ◌≤◌, false, List, [], length, length-drop, map, take, drop, Option, Some, None, refl, sym, ap, subst, ◌∙◌, arith}
use Rattle.std.specs.Prelude.{IfSome, Result, Ok, Err}
use Rattle.std.specs.Option.{option_map_or}
use Rattle.std.proofs.lemmas.List.{length-map, length-take-le}
use Rattle.vm_ids.specs.Counting.{no_counts}
use Rattle.vm_ids.specs.Held.{Held, Segments, segments_in}
use Rattle.vm_ids.specs.declared.command.Command.TheVariants as commands
use Rattle.vm_ids.specs.declared.command.Extent.{Extent}
use Rattle.vm_ids.specs.declared.numbers.SegId.{SegId}
use Rattle.vm_ids.specs.declared.refusal.Refusal.TheVariants as refusals
use Rattle.vm_ids.specs.declared.reply.FaultAt.TheVariants as faults
use Rattle.vm_ids.specs.declared.reply.Reply.TheVariants as replies
use Rattle.vm_ids.specs.declared.reply.Trouble.TheVariants as troubles
use Rattle.vm_model.specs.Answering.{Answered, answer_of, held_for, held_part, is_any_locked, reply}
use Rattle.vm_model.specs.Machine as model
use Rattle.vm_model.specs.Machine.{Machine, numbered}
use Rattle.vm_model.specs.Outcome.{IsNotRefused}
use Rattle.vm_model.specs.PageForest.{plain_forest}
use Rattle.vm_model.proofs.Parts.Naming.{segment_names}
use Rattle.vm_port.specs.declared.traits.mapper.Mapper.{Ghosts as GhostsOfMapper}
use Rattle.gmi_calls.specs.Calling.{MapperCall}
use Rattle.gmi_calls.specs.Reaching.{Reached}
use Rattle.gmi_calls.proofs.Called.{OutcomeFor, every_segments, fault_for, no_segments}
use Rattle.gmi_calls.proofs.Opening.{taken_for}
use Rattle.gmi_calls.proofs.Rising.{asked_none, quiet_none, reached_none}
use Rattle.contexts.specs.Actors.{machine_with}
use Rattle.flat_mm.specs.Extents.{ArePulled, IsExtent}
use Rattle.flat_mm.specs.Manager.{AreKept, IsKept, IsManagerSound, IsValid, Manager, caches_in, flat, machine_in, room_of}
use Rattle.flat_mm.specs.Store.{AreWhole, Cache, Page, Store, put_pages, with_cache}
use Rattle.flat_mm.proofs.Acting.{whole_machine}
use Rattle.flat_mm.proofs.Extents.{extent_named, extent_within, invalidate_row, with_pages}
use Rattle.flat_mm.proofs.Filling.{pulled_bytes, pulled_kept}
use Rattle.flat_mm.proofs.Putting.{kept_puts, plain_puts, puts, sound_puts}
use Rattle.flat_mm.proofs.Reached.{full_call, left_call, reached_call}

-- pages were exchanged for those that were filled, and given up
abbrev pub part_of : Store → ℕ → ℕ → ℕ → List Page
part_of s n first pages = take pages (drop first (option_map_or (λ (c : Cache). c.pages) (numbered s.caches n) []))

pub exchanged : (s b c d : Store) (n first pages : ℕ) (x : Cache) → numbered s.caches n ≡ Some x → first + pages ≤ length x.pages → pages ≤ s.free → s.loose ≡ [] → length b.loose ≡ pages → b ≡ record s { free = s.free - pages; loose = b.loose }
    → c ≡ record b { caches = with_cache n (put_pages first b.loose) b.caches; loose = part_of b n first (length b.loose) } → d ≡ record c { free = c.free + length c.loose; loose = [] } → d ≡ puts s n first b.loose
exchanged s b c d n first pages x alive within room settled many filled changed dropped =
    let give_up : Store → Store = λ y. record y { free = y.free + length y.loose; loose = [] } in
    let change : Store → Store = λ y. record y { caches = with_cache n (put_pages first b.loose) y.caches; loose = part_of y n first (length b.loose) } in
    let pages_left : length (part_of s n first (length b.loose)) ≡ pages =
    ap (λ (o : Option Cache). length (take (length b.loose) (drop first (option_map_or (λ (c : Cache). c.pages) o [])))) alive
    ∙ length-take-le (length b.loose) (drop first x.pages) (omega (arith, many, within, length-drop first x.pages)) ∙ many in
    dropped ∙ ap give_up changed ∙ ap (λ (y : Store). give_up (change y)) filled
    ∙ (λ i. let y : Store = record s { free = (let e : s.free - pages + length (part_of s n first (length b.loose)) ≡ s.free = omega (arith, room, pages_left) in e) i; caches = with_cache n (put_pages first b.loose) s.caches; loose = sym settled i } in y)

module _ {X : Type 0} (M : GhostsOfMapper X) (before after : X) (p : Manager) (e : Extent) (seg : SegId) (at : IsExtent p.store e seg) (unlocked : is_any_locked (machine_in p) e.cache e.first.0 e.pages ≡ false) (valid : IsValid p (M.held before)) where
  -- what it would come to
  row : (s : Segments) → answer_of (machine_in p) (plain_forest (machine_in p)) (commands.Invalidate e) s ≡ reply replies.Done (with_pages p e seg at (held_part (held_for (machine_in p) s e.cache.0) e.first.0 e.pages))
  row s = invalidate_row p e seg at unlocked (held_for (machine_in p) s e.cache.0)

  unrefused : (s : Segments) → IsNotRefused (answer_of (machine_in p) (plain_forest (machine_in p)) (commands.Invalidate e) s).answer
  unrefused s = subst (λ (y : Answered). IsNotRefused y.answer) (sym (row s)) tt

  -- there is no memory
  pub invalidate_lacks : MapperCall M flat before p (commands.Invalidate e) (Err troubles.Memory) before p
  invalidate_lacks =
      let m = machine_in p in
      let ok : Result (Unit {0}) (Unit {0}) = Ok tt in
      left_call M before before p (commands.Invalidate e) valid ok refl (reached_none (M.counts before) tt) refl tt troubles.Memory
      (every_segments (M.held before) m m (commands.Invalidate e) (Err troubles.Memory) no_counts (λ s. (refl, tt, unrefused s))) tt (quiet_none (M.counts before))

  -- or no room
  pub invalidate_full : room_of p < e.pages → MapperCall M flat before p (commands.Invalidate e) (Err (troubles.Refused refusals.Full)) before p
  invalidate_full less =
      let ok : Result (Unit {0}) (Unit {0}) = Ok tt in
      full_call M before before p (commands.Invalidate e) valid ok (asked_none M before tt) replies.Done (next (M.held before)) refl (outcome (M.held before)) less
    where
      next : Option Held → Machine
      next None = with_pages p e seg at (held_part (held_for (machine_in p) no_segments e.cache.0) e.first.0 e.pages)
      next (Some h) = with_pages p e seg at (held_part (held_for (machine_in p) (segments_in h) e.cache.0) e.first.0 e.pages)

      outcome : (told : Option Held) → OutcomeFor told (machine_in p) (commands.Invalidate e) (Ok replies.Done) (next told) no_counts
      outcome None = (no_segments, row no_segments)
      outcome (Some h) = row (segments_in h)

  module _ {T E : Type 0} (r : Result T E) (same : M.held after ≡ M.held before) (R : Reached (M.counts before) (M.counts after) r) (page : M.page_bytes after ≡ M.page_bytes before) where
    -- the mapper fails
    pub invalidate_failed : 0 < R.rises.faults → MapperCall M flat before p (commands.Invalidate e) (Err (troubles.Mapper (faults.Save 0))) after p
    invalidate_failed failed =
        let m = machine_in p in
        let c = commands.Invalidate e in
        left_call M before after p c valid r same R page tt (troubles.Mapper (faults.Save 0))
        (fault_for (M.held before) m c (faults.Save 0) R.rises failed (λ s. (segment_names m e.cache.0 seg.0 (extent_named p e seg at), refl)) unrefused) tt tt

    module _ (count : ℕ) (sound : IsManagerSound p.store p.actors count) (room : e.pages ≤ room_of p) (pages : List Page) (many : length pages ≡ e.pages) (pulled : ArePulled (M.held before) seg.0 e.first.0 pages)
        (u : Store) (is : u ≡ puts p.store e.cache.0 e.first.0 pages) (whole : AreWhole u) where
      fits : e.first.0 + length pages ≤ length at.cache.pages
      fits = omega (arith, many, at.within)

      pub invalidate_sound : IsManagerSound u p.actors count
      invalidate_sound =
          sound_puts p.store e.cache.0 at.cache at.alive e.first.0 pages fits p.actors count u sound whole (ap (λ (x : Store). x.loose) is ∙ sound.settled) (ap (λ (x : Store). x.page_bytes) is) (ap (λ (x : Store). x.caches) is)

      pub invalidate_call : MapperCall M flat before p (commands.Invalidate e) (Ok replies.Done) after (record { store = u; actors = p.actors })
      invalidate_call =
          let m = machine_in p in
          let c = commands.Invalidate e in
          let told = M.held before in
          let q : Manager = record { store = u; actors = p.actors } in
          let taken = map (λ (x : Page). x.bytes) pages in
          let next : machine_in q ≡ with_pages p e seg at taken =
          (λ i. machine_with (caches_in (is i)) (is i).frames p.actors) ∙ ap (λ (cs : List (Option model.Cache)). machine_with cs p.store.frames p.actors) (plain_puts p.store e.cache.0 at.cache at.alive e.first.0 pages) in
          reached_call M before after p c valid r same R page tt q (Ok replies.Done) (whole_machine u p.actors (sound.page ∙ sym (ap (λ (x : Store). x.page_bytes) is)) whole)
          (taken_for told told m (machine_in q) c (Ok replies.Done) e.cache.0 seg.0 e.first.0 e.pages taken R.rises refl valid.ready (extent_named p e seg at) (extent_within p e seg at) (length-map pages (λ (x : Page). x.bytes) ∙ many)
          (pulled_bytes told seg.0 e.first.0 pages pulled)
          (λ s part. row s ∙ ap (λ (ps : List model.Page). reply replies.Done (with_pages p e seg at ps)) part ∙ ap (reply replies.Done) (sym next))) tt tt
          (λ before now. room)
          (kept told valid.kept pulled)
        where
          kept : (told : Option Held) → IfSome told (λ h. AreKept (segments_in h) p.store.caches) → ArePulled told seg.0 e.first.0 pages → IfSome told (λ h. AreKept (segments_in h) u.caches)
          kept None k P = tt
          kept (Some h) k P =
              subst (λ (x : Store). AreKept (segments_in h) x.caches) (sym is)
              (kept_puts p.store e.cache.0 at.cache at.alive e.first.0 pages fits (segments_in h) k (λ x i q named there.
              let one : Some seg ≡ Some x = sym at.named ∙ named in
              let x_is : seg ≡ x = cc one in
              subst (λ (y : SegId). IsKept (segments_in h) y.0 (e.first.0 + i) q) x_is (pulled_kept h seg.0 (e.first.0 + i) q (P i q there))))
