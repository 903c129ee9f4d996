use Rattle.vm_ids.specs.declared.numbers.FrameId.{FrameId}
use Rattle.vm_ids.specs.declared.numbers.NodeId.{NodeId}
use Rattle.residency.specs.Between.{world_at}
use Rattle.pvm_core.proofs.Accesses.Ready.{seen_no_more, seen_admits, ready_hand}
use Rattle.std.proofs.Common.{rules, ◌≡◌, List, Option, ◌+◌, ◌<◌, ◌≤◌, true, None, length, refl, sym, ap, subst, ◌∙◌, arith}
use Rattle.std.specs.Prelude.{Ok, Err, option_map, IfErr, Result}
use Rattle.gmi_calls.specs.Calling.{AsksFirst}
use Rattle.vm_ids.specs.declared.command.Command.TheVariants as commands
use Rattle.vm_ids.specs.declared.numbers.PageNo.{PageNo}
use Rattle.vm_ids.specs.declared.reply.FaultAt.{FaultAt}
use Rattle.vm_ids.specs.declared.reply.Reply.TheVariants as replies
use Rattle.vm_ids.specs.declared.reply.Trouble.TheVariants as troubles
use Rattle.vm_ids.specs.Forest.Commands.{page_name}
use Rattle.vm_ids.specs.Forest.Rules.{write}
use Rattle.frame_pool.specs.Pool.{bytes_of, with_bytes}
use Rattle.local_cache.specs.Arena.{Table, table_at, table_of}
use Rattle.local_cache.specs.Reading.{name_of}
use Rattle.local_cache.specs.Whole.{size_of}
use Rattle.residency.specs.declared.store.Store.{Store}
use Rattle.page_tables.specs.Translations.{entry_at}
use Rattle.page_tables.specs.declared.entry.Translation.{Translation}
use Rattle.residency.specs.Seeing.{IsAlone, seen_in}
use Rattle.residency.specs.StoreForest.{store_forest}
use Rattle.residency.specs.World.{world}
use Rattle.fault_path.specs.Faults.{readied}
use Rattle.fault_path.specs.Translating.{MayCome}
use Rattle.vm_model.specs.Answering.{Answer, overwrite}
use Rattle.vm_model.specs.Following.{written_at}
use Rattle.vm_model.specs.Machine.{numbered as has_number}
use Rattle.vm_model.specs.PageForest.{PageForest}
use Rattle.vm_model.specs.Place.{Place, place, place_of_actor}
use Rattle.vm_model.specs.Run.{CallIs, State}
use Rattle.regions.specs.AddressSpace.{place_told}
use Rattle.pvm_core.specs.Manager.{IsManagerSound, IsValid, Manager, forest_of, machine_by, machine_of, numbered, state_at}
use Rattle.pvm_core.specs.Pieces.{fault_at}
use Rattle.pvm_core.specs.Translated.{AreTranslationsRight, MayBeWritten, name_at}
use Rattle.segment_ops.specs.Access.{GrantsStay}
use Rattle.pvm_core.proofs.Answering.Answered.{call_is, failed_at, no_segments}
use Rattle.pvm_core.proofs.Readiness.Granted.{writable_node}
use Rattle.pvm_core.proofs.Homes.Full.{full_after}
use Rattle.pvm_core.proofs.Homes.Homed.{reached}
use Rattle.pvm_core.specs.Reaching.{Reach}
use Rattle.pvm_core.proofs.Answering.Kept.{kept_by, kept_sound, seen, sizeless, unsized_right, valid_seen, call_seen}
use Rattle.pvm_core.proofs.Answering.Standing.{Stands, stands}
use Rattle.contexts.proofs.Placing.{IsFoundAt, found_at, spot}
use Rattle.pvm_core.proofs.Accesses.Asked.{missed_by, same_tables}
use Rattle.pvm_core.proofs.Accesses.Loading.{sized_table}
use Rattle.pvm_core.proofs.Accesses.AccessedPages.{ends_within}
use Rattle.pvm_core.proofs.Accesses.Seen.{alone_seen, led_page, led_right, led_writes, same_grants, seen_sound, seen_state, seen_valid}
use Rattle.pvm_core.proofs.Translating.Dropped.{dropped_right, fewer_right}
use Rattle.pvm_core.proofs.Answering.Reaching.{reach_denied, reach_told}
use Rattle.pvm_core.proofs.Homes.Sized.{sized_after}
use Rattle.pvm_core.proofs.Accesses.Storing.{stored_forest}
use Rattle.pvm_core.proofs.Accesses.Stored.{kept_copies, bytes_right, bytes_sound, copied_most, dirty_here, not_saved, store_fault, stored, undenied, undenied_blank, whole_stored}
use Rattle.pvm_core.proofs.Meaning.Values.{followed_of}
use Rattle.pvm_core.proofs.Answering.Recorded.{asks_missed}
use Rattle.page_commands.specs.Homes.{IsWritable}
use Rattle.pvm_core.proofs.pvm.Pvm.store_at.Given.{Over}
use Rattle.pvm_core.proofs.pvm.Pvm.store_at.Goals.{After-remember, After-self, After-write_from_owner, In-Err, In-Ok}
use Rattle.pvm_core.specs.Access.{AreNodesOf, is_ready}
use Rattle.residency.specs.declared.miss.Miss.{Miss}
use Rattle.residency.specs.declared.miss.Miss.TheVariants.{Victim}
use Rattle.fault_path.specs.Faults.{is_at_hand}
use Rattle.local_cache.specs.Own.{own_of}
use Rattle.pvm_core.proofs.Accesses.AtHand.{missed_hand, written_hand}
use Rattle.pvm_core.proofs.pvm.Pvm.store_at.Goals as goal

valid_before : (g : Over) (c : After-self g) → IsValid (seen c.self.inside.caches c.self.inside.store c.self.inside.contexts) (g.M.Mapper.held c.args.mapper.now)
valid_before g c = valid_seen c.self.view_is c.requires.valid

-- the access is in a region
found : (g : Over) (c : After-self g) → IsFoundAt (size_of c.self.inside.caches) c.self.inside.contexts.page_bytes (has_number c.self.inside.contexts.actors c.args.actor.0) c.args.address (length c.args.piece.now) c.args.place
found g c =
    let i = c.self.inside in
    spot (size_of i.caches) i.contexts c.args.actor.0 c.args.address (length c.args.piece.now) c.args.place c.self.invariant.sound.actors
    (subst (λ (p : Manager). Ok c.args.place ≡ place_told (place_of_actor p.page_bytes (has_number p.actors c.args.actor.0) c.args.address (length c.args.piece.now))) (sym c.self.view_is) c.requires.place)

-- the nodes of the page
told_nodes : (g : Over) (c : After-self g) → AreNodesOf c.self.inside.caches c.args.place.cache c.args.place.page c.args.nodes.node c.args.nodes.owner
told_nodes g c = subst (λ (p : Manager). AreNodesOf p.caches c.args.place.cache c.args.place.page c.args.nodes.node c.args.nodes.owner) (sym c.self.view_is) c.requires.nodes

-- where the page may be written
writable : (g : Over) (c : After-self g) → IsWritable c.self.inside.caches (page_name c.args.place.cache c.args.place.page.0)
writable g c = subst (λ (p : Manager). IsWritable p.caches (page_name c.args.place.cache c.args.place.page.0)) (sym c.self.view_is) c.requires.writable

pub returns-in-Ok-clause-translated : goal.returns-in-Ok-clause-translated
returns-in-Ok-clause-translated g c =
    let i = c.self.inside in
    let r = found g (goal.at.returns-in-Ok-clause-translated g c).After-self in
    led_writes i.contexts.page_bytes c.args.actor c.args.address (length c.args.piece.now) (record { frame = c.in-Ok.frame; writable = true }) c.write_frame.new.store c.remember.new.store c.remember.ensures refl
    (ends_within i.contexts.page_bytes c.args.address (length c.args.piece.now) _ (found_at r.region c.args.place) (sym r.is))

pub remember-requires-clause-frame : goal.remember-requires-clause-frame
remember-requires-clause-frame g c =
    let e = c.write_from_owner.ensures in
    let fitted = e.answered.kept.right.tied.fitted in
    omega (arith, c.in-Ok.ensures.ready.bound.0, fitted.map_frames, fitted.places_frames, ap (λ (s : Store). length s.tables) c.write_frame.ensures)

pub remember-requires-clause-mark : goal.remember-requires-clause-mark
remember-requires-clause-mark g c =
    let e = c.write_from_owner.ensures in
    let fitted = e.answered.kept.right.tied.fitted in
    omega (arith, c.in-Ok.ensures.ready.bound.0, fitted.map_frames, fitted.marks_frames, ap (λ (s : Store). length s.marks) c.write_frame.ensures)

pub write_from_owner-requires-clause-granted : goal.write_from_owner-requires-clause-granted
write_from_owner-requires-clause-granted g c = writable_node c.self.inside.caches c.args.nodes.node c.args.place.cache c.args.place.page.0 (told_nodes g (goal.at.write_from_owner-requires-clause-granted g c).After-self).name (writable g (goal.at.write_from_owner-requires-clause-granted g c).After-self)

pub write_from_owner-requires-clause-copies : goal.write_from_owner-requires-clause-copies
write_from_owner-requires-clause-copies g c = omega (arith, c.requires.made, ap numbered c.self.view_is)

-- the page is readied for the write, or isn't: what is kept either way
reach_then : (g : Over) (c : After-write_from_owner g) → Reach (machine_of (seen c.self.inside.caches c.self.inside.store c.self.inside.contexts) (g.M.Mapper.held c.args.mapper.now)) (g.M.Mapper.held c.args.mapper.now) (g.M.Mapper.held c.write_from_owner.new.mapper) (g.M.Mapper.counts c.args.mapper.now) (g.M.Mapper.counts c.write_from_owner.new.mapper)
reach_then g c =
    let n = c.write_from_owner.new in
    reached (seen c.self.inside.caches c.self.inside.store c.self.inside.contexts) (g.M.Mapper.held c.args.mapper.now) c.self.invariant.sound.nodes c.self.invariant.sound.apart (g.M.Mapper.page_bytes c.args.mapper.now) (g.M.Mapper.page_bytes n.mapper) n.caches n.store (g.M.Mapper.held c.write_from_owner.new.mapper) (g.M.Mapper.counts c.args.mapper.now) (g.M.Mapper.counts c.write_from_owner.new.mapper) c.write_from_owner.ensures.answered.later c.write_from_owner.ensures.answered.told

sound_then : (g : Over) (c : After-write_from_owner g) → IsManagerSound c.write_from_owner.new.caches c.write_from_owner.new.store c.self.inside.contexts c.self.inside.live
sound_then g c =
    let i = c.self.inside in
    let n = c.write_from_owner.new in
    kept_sound c.self.inside.caches n.caches i.store n.store (g.M.Mapper.held c.args.mapper.now) (g.M.Mapper.held c.write_from_owner.new.mapper) (g.M.Mapper.page_bytes c.args.mapper.now) (g.M.Mapper.page_bytes n.mapper) c.write_from_owner.ensures.answered.kept i.contexts i.live c.self.invariant.sound (valid_before g (goal.at.After-write_from_owner g c).After-self).right.tied.placed.bound

translated_then : (g : Over) (c : After-write_from_owner g) → AreTranslationsRight c.write_from_owner.new.caches c.write_from_owner.new.store c.self.inside.contexts
translated_then g c =
    let i = c.self.inside in
    let a = c.self.inside.caches in
    let n = c.write_from_owner.new in
    let e = c.write_from_owner.ensures in
    let o = told_nodes g (goal.at.After-write_from_owner g c).After-self in
    dropped_right (MayCome a c.args.nodes.owner) a n.caches i.store n.store i.contexts (e.drops c.args.nodes.owner o.owner) (same_grants a n.caches e.answered.kept.nodes.caches) c.self.invariant.translated

pub invariant_of-self : goal.invariant_of-self
invariant_of-self g c =
    let places = goal.at.invariant_of-self g c in
    let i = c.self.inside in
    let a = c.self.inside.caches in
    let n = c.write_from_owner.new in
    let e = c.write_from_owner.ensures in
    let node : NodeId = c.args.nodes.node in
    let o = told_nodes g places.After-self in
    let s = c.write_frame.new.store in
    let u = c.remember.new.store in
    let pl = c.args.place in
    let to : Translation = record { frame = c.in-Ok.frame; writable = true } in
    let r = found g places.After-self in
    let at : Place = found_at r.region pl in
    let name : name_of n.caches node ≡ name_at at = e.answered.kept.nodes.name node ∙ o.name in
    let alone : IsAlone n.caches (name_at at) = subst (IsAlone n.caches) name c.in-Ok.ensures.alone in
    let held = e.answered.kept.nodes.held node ∙ o.held in
    let seen_there = alone_seen n.caches n.store e.answered.kept.right.tied.placed e.answered.kept.sound e.answered.kept.shaped node held c.in-Ok.ensures.alone c.in-Ok.frame.0 c.in-Ok.ensures.ready.bound.1 in
    let may : MayBeWritten n.caches at = record {
      allowed = c.requires.may_write;
      alone = alone;
      granted = same_grants a n.caches e.answered.kept.nodes.caches (name_at at) (writable g places.After-self);
    } in
    let moved = fewer_right n.caches n.store s i.contexts (ap (λ (v : Store). v.map) c.write_frame.ensures) (λ place e is. ap (λ (v : Store). entry_at v.tables place) (sym c.write_frame.ensures) ∙ is) (translated_then g places.After-write_from_owner) in
    record {
      sound = seen_sound s u c.remember.ensures.only n.caches i.contexts i.live (bytes_sound n.caches n.store s i.contexts i.live c.in-Ok.frame.0 _ c.write_frame.ensures (sound_then g places.After-write_from_owner));
      translated = led_right c.args.actor c.args.address to n.caches s u i.contexts c.remember.ensures moved
          (led_page (size_of i.caches) n.caches s i.contexts c.args.actor c.args.address (length c.args.piece.now) to at c.self.invariant.sound.actors (sym r.is)
          (ap (λ (v : Store). seen_in n.caches v.map (name_at at)) c.write_frame.ensures ∙ ap (seen_in n.caches n.store.map) (sym name) ∙ seen_there) (λ w. may));
    }

pub invariant_of-self-in-Err : goal.invariant_of-self-in-Err
invariant_of-self-in-Err g c =
    let at = (goal.at.invariant_of-self-in-Err g c).After-write_from_owner in
    record { sound = sound_then g at; translated = translated_then g at }

-- the piece is written once the page is ready
written_then : (g : Over) (c : After-remember g)
    → IsValid (seen c.write_from_owner.new.caches c.remember.new.store c.self.inside.contexts) (g.M.Mapper.held c.write_from_owner.new.mapper)
    × CallIs (g.M.Mapper.counts c.args.mapper.now) (g.M.Mapper.counts c.write_from_owner.new.mapper) (state_at c.args.self.now (g.M.Mapper.held c.args.mapper.now)) (commands.Store c.args.actor c.args.address c.args.piece.now) (Ok replies.Done) (state_at (seen c.write_from_owner.new.caches c.remember.new.store c.self.inside.contexts) (g.M.Mapper.held c.write_from_owner.new.mapper))
written_then g c =
    let places = goal.at.After-remember g c in
    let i = c.self.inside in
    let a = c.self.inside.caches in
    let h = g.M.Mapper.held c.args.mapper.now in
    let size = g.M.Mapper.page_bytes c.args.mapper.now in
    let before = g.M.Mapper.counts c.args.mapper.now in
    let sound = c.self.invariant.sound in
    let valid = valid_before g places.After-self in
    let n = c.write_from_owner.new in
    let e = c.write_from_owner.ensures in
    let k = g.M.Mapper.held n.mapper in
    let then_size = g.M.Mapper.page_bytes n.mapper in
    let after = g.M.Mapper.counts n.mapper in
    let p : Manager = seen a i.store i.contexts in
    let reach = reach_then g places.After-write_from_owner in
    let pl = c.args.place in
    let bs : c.as_slice-bytes.result.now ≡ c.args.piece.now = c.as_slice-bytes.ensures.bytes in
    let r = found g places.After-self in
    let at : Place = found_at r.region pl in
    let is : (f : PageForest) → Ok at ≡ place (machine_by p f) c.args.actor.0 c.args.address (length c.args.piece.now) = λ f. r.is in
    let there = r.there in
    let t = sized_table (table_of a pl.cache.0) r.count there in
    let q : Manager = seen n.caches c.write_frame.new.store i.contexts in
    let new = overwrite pl.at c.args.piece.now (bytes_of n.store.frames c.in-Ok.frame.0) in
    let stored_at : c.write_frame.new.store ≡ record n.store { frames = with_bytes n.store.frames c.in-Ok.frame.0 new }
    = c.write_frame.ensures ∙ ap (λ xs. record n.store { frames = with_bytes n.store.frames c.in-Ok.frame.0 (overwrite pl.at xs (bytes_of n.store.frames c.in-Ok.frame.0)) }) bs in
    let then = bytes_sound n.caches n.store c.write_frame.new.store i.contexts i.live c.in-Ok.frame.0 new stored_at (sound_then g places.After-write_from_owner) in
    let frames = ap (λ (s : Store). length s.frames.held) stored_at ∙ e.answered.kept.frames in
    let by : (f : PageForest) → machine_by q f ≡ machine_by p f = λ f. (λ j. machine_by (seen n.caches (stored_at j) i.contexts) f) ∙ kept_by a n.caches i.store n.store h k size then_size e.answered.kept i.contexts f in
    let ready = c.in-Ok.ensures.ready in
    let o = told_nodes g places.After-self in
    let rule : forest_of q k ≡ write (forest_of p h) (page_name pl.cache pl.page.0) (option_map (overwrite pl.at c.args.piece.now))
    = (λ j. store_forest (world k None n.caches (stored_at j))) ∙ sym (sizeless k then_size n.caches (record n.store { frames = with_bytes n.store.frames c.in-Ok.frame.0 new }))
    ∙ stored_forest (world_at g.M.Mapper c.args.mapper.now a i.store) (world_at g.M.Mapper n.mapper n.caches n.store) c.in-Ok.frame.0 c.args.nodes.node (page_name pl.cache pl.page.0) pl.at c.args.piece.now e.answered.kept
    (ready.forest ∙ ap (readied (store_forest (world_at g.M.Mapper c.args.mapper.now a i.store))) o.name) (e.answered.kept.nodes.name c.args.nodes.node ∙ o.name) ready.bound.0 ready.bound.1
    ∙ ap (λ f. write f (page_name pl.cache pl.page.0) (option_map (overwrite pl.at c.args.piece.now))) (sizeless h size a i.store) in
    let followed = followed_of p h sound.nodes sound.actors.some valid.whole in
    let less : pl.page.0 < length t.0.pages = omega (arith, r.less, t.2) in
    let fits : pl.at + length c.args.piece.now ≤ p.page_bytes = r.fits in
    let both = reach_told (machine_of p h) h k before after reach in
    let now : IsValid q k = record {
      right = bytes_right k n.caches n.store c.write_frame.new.store c.in-Ok.frame.0 new stored_at (unsized_right k then_size n.caches n.store e.answered.kept.right) (dirty_here n.caches n.store c.in-Ok.frame.0 c.args.nodes.node ready.bound.1 ready.resident);
      sized = sized_after p n.caches h k (λ cache. ap (λ (ts : List (Option Table)). option_map (λ (t : Table). t.segment) (table_at ts cache)) e.answered.kept.nodes.caches) (λ cache. ap (λ (ts : List (Option Table)). option_map (λ (t : Table). length t.pages) (table_at ts cache)) e.answered.kept.nodes.caches) reach.pushes reach.rule valid.sized;
      full = full_after p n.caches h k (λ cache. ap (λ (ts : List (Option Table)). option_map (λ (t : Table). t.segment) (table_at ts cache)) e.answered.kept.nodes.caches) reach.pushes reach.rule valid.whole valid.full;
      whole = whole_stored p q h k c.args.actor c.args.address at c.args.piece.now t.0 t.1 less fits sound.actors.some e.answered.kept.nodes.caches (refl, frames, refl, refl) sound.nodes then.nodes valid.whole followed rule both by;
    } in
    let answer : Answer = Ok replies.Done in
    let may = writable g places.After-self in (
      seen_valid c.write_frame.new.store c.remember.new.store c.remember.ensures.only n.caches i.contexts k now,
      call_seen h c.self.view_is (subst (λ (x : State). CallIs before after (state_at p h) (commands.Store c.args.actor c.args.address c.args.piece.now) answer x) (sym (seen_state c.write_frame.new.store c.remember.new.store c.remember.ensures.only n.caches i.contexts k))
          (call_is before after p q h k (commands.Store c.args.actor c.args.address c.args.piece.now) answer reach now tt tt (rule ∙ ap (λ x. written_at (forest_of p h) x c.args.piece.now) (is (forest_of p h)))
          (stored p q h k c.args.actor c.args.address at c.args.piece.now t.0 t.1 less fits sound.actors.some e.answered.kept.nodes.caches (refl, frames, refl, refl) sound.nodes then.nodes valid.whole followed rule both by
          is c.requires.may_write (λ f s told. undenied p h sound.nodes valid.right pl.cache pl.page.0 r.count there r.less may f k s (reach_denied (machine_of p h) h k before after reach) told) _))),
    )

-- at most two pages are copied
most : (g : Over) (c : In-Ok g) → c.write_from_owner.new.caches.copies ≤ c.self.inside.caches.copies + 2
most g c =
    let n = c.write_from_owner.new in
    copied_most (world_at g.M.Mapper c.args.mapper.now c.self.inside.caches c.self.inside.store) (world (g.M.Mapper.held c.write_from_owner.new.mapper) (g.M.Mapper.page_bytes n.mapper) n.caches n.store) _ c.in-Ok.ensures.ready.forest

pub returns-in-Ok-clause-call : goal.returns-in-Ok-clause-call
returns-in-Ok-clause-call g c = record {
  valid = (written_then g (goal.at.returns-in-Ok-clause-call g c).After-remember).0;
  answers = (written_then g (goal.at.returns-in-Ok-clause-call g c).After-remember).1;
  asks_first = tt;
  made = (
      omega (arith, most g (goal.at.returns-in-Ok-clause-call g c).In-Ok, c.write_from_owner.ensures.answered.kept.made, ap numbered c.self.view_is)
      );
  room = refl;
  page = search rules;
}

pub returns-in-Ok-clause-copies : goal.returns-in-Ok-clause-copies
returns-in-Ok-clause-copies g c =
    subst (λ (p : Manager). c.write_from_owner.new.caches.copies ≤ p.caches.copies + 2) c.self.view_is (omega (arith, most g (goal.at.returns-in-Ok-clause-copies g c).In-Ok))

-- the page isn't readied: the manager stands for the same
missed : (g : Over) (c : In-Err g) → Stands (seen c.self.inside.caches c.self.inside.store c.self.inside.contexts) c.write_from_owner.new.caches c.write_from_owner.new.store c.self.inside.contexts c.self.inside.live (g.M.Mapper.held c.args.mapper.now) (g.M.Mapper.held c.write_from_owner.new.mapper) (g.M.Mapper.counts c.args.mapper.now) (g.M.Mapper.counts c.write_from_owner.new.mapper)
missed g c =
    let places = goal.at.In-Err g c in
    let i = c.self.inside in
    let n = c.write_from_owner.new in
    stands c.self.inside.caches n.caches i.store n.store (g.M.Mapper.held c.args.mapper.now) (g.M.Mapper.held c.write_from_owner.new.mapper) (g.M.Mapper.page_bytes c.args.mapper.now) (g.M.Mapper.page_bytes n.mapper) c.write_from_owner.ensures.answered.kept i.contexts i.live c.self.invariant.sound (g.M.Mapper.counts c.args.mapper.now) (g.M.Mapper.counts c.write_from_owner.new.mapper) c.in-Err.ensures.missed.forest (reach_then g places.After-write_from_owner) (valid_before g places.After-self)

pub returns-in-Err-clause-call : goal.returns-in-Err-clause-call
returns-in-Err-clause-call g c = record {
  valid = (missed g (goal.at.returns-in-Err-clause-call g c).In-Err).valid;
  answers = (
      let places = goal.at.returns-in-Err-clause-call g c in
      let i = c.self.inside in
      let a = c.self.inside.caches in
      let h = g.M.Mapper.held c.args.mapper.now in
      let before = g.M.Mapper.counts c.args.mapper.now in
      let k = g.M.Mapper.held c.write_from_owner.new.mapper in
      let after = g.M.Mapper.counts c.write_from_owner.new.mapper in
      let n = c.write_from_owner.new in
      let p : Manager = seen a i.store i.contexts in
      let q : Manager = seen n.caches n.store i.contexts in
      let valid = valid_before g places.After-self in
      let l = missed g places.In-Err in
      let pl = c.args.place in
      let r = found g places.After-self in
      let at : Place = found_at r.region pl in
      let is : (f : PageForest) → Ok at ≡ place (machine_by p f) c.args.actor.0 c.args.address (length c.args.piece.now) = λ f. r.is in
      let page : PageNo = pl.page in
      let there = r.there in
      let may = c.requires.may_write in
      let written = writable g places.After-self in
      call_seen h c.self.view_is (subst (λ (f : FaultAt). CallIs before after (state_at p h) (commands.Store c.args.actor c.args.address c.args.piece.now) (Err (troubles.Mapper f)) (state_at q k)) (sym c.fault_of.ensures)
      (failed_at before after p q h k (commands.Store c.args.actor c.args.address c.args.piece.now) (Err (troubles.Mapper (fault_at c.in-Err.miss page))) no_segments l.reach c.self.invariant.sound.nodes l.sound.nodes l.valid l.forest (not_saved c.in-Err.miss page (forest_of p h) (machine_of p h) (commands.Store c.args.actor c.args.address c.args.piece.now) (machine_of q k) refl) tt tt
      (λ f. store_fault (length l.reach.pushes) (machine_by p f) (machine_by q f) (forest_of p h) c.args.actor c.args.address c.args.piece.now no_segments before after c.in-Err.miss page at (l.by f) (is f) may (undenied_blank p f pl.cache.0 pl.page.0) refl c.in-Err.ensures.missed.cause)
      (λ f s told. store_fault (length l.reach.pushes) (machine_by p f) (machine_by q f) (forest_of p h) c.args.actor c.args.address c.args.piece.now s before after c.in-Err.miss page at (l.by f) (is f) may
      (undenied p h c.self.invariant.sound.nodes valid.right pl.cache pl.page.0 r.count there r.less written f k s (reach_denied (machine_of p h) h k before after l.reach) told) refl c.in-Err.ensures.missed.cause)))
      );
  asks_first = subst (λ (f : FaultAt). AsksFirst (commands.Store c.args.actor c.args.address c.args.piece.now) (Err (troubles.Mapper f)) (g.M.Mapper.counts c.args.mapper.now) (g.M.Mapper.counts c.write_from_owner.new.mapper)) (sym c.fault_of.ensures) (asks_missed (commands.Store c.args.actor c.args.address c.args.piece.now) c.in-Err.miss c.args.place.page (g.M.Mapper.counts c.args.mapper.now) (g.M.Mapper.counts c.write_from_owner.new.mapper));
  made = (
      let n = c.write_from_owner.new in
      omega (arith, kept_copies (g.M.Mapper.held c.args.mapper.now) (g.M.Mapper.held c.write_from_owner.new.mapper) (g.M.Mapper.page_bytes c.args.mapper.now) (g.M.Mapper.page_bytes n.mapper) c.self.inside.caches n.caches c.self.inside.store n.store c.in-Err.ensures.missed.forest, c.write_from_owner.ensures.answered.kept.made, ap numbered c.self.view_is)
      );
  room = refl;
  page = search rules;
}

pub returns-in-Err-clause-copies : goal.returns-in-Err-clause-copies
returns-in-Err-clause-copies g c =
    let n = c.write_from_owner.new in
    subst (λ (p : Manager). n.caches.copies ≤ p.caches.copies + 2) c.self.view_is (omega (arith, kept_copies (g.M.Mapper.held c.args.mapper.now) (g.M.Mapper.held c.write_from_owner.new.mapper) (g.M.Mapper.page_bytes c.args.mapper.now) (g.M.Mapper.page_bytes n.mapper) c.self.inside.caches n.caches c.self.inside.store n.store c.in-Err.ensures.missed.forest))

kept_grants : (g : Over) (c : After-write_from_owner g) → GrantsStay c.args.self.now.caches c.write_from_owner.new.caches
kept_grants g c = subst (λ (p : Manager). GrantsStay p.caches c.write_from_owner.new.caches) c.self.view_is (same_tables c.self.inside.caches c.write_from_owner.new.caches c.write_from_owner.ensures.answered.kept.nodes.caches)

pub returns-in-Ok-clause-grants : goal.returns-in-Ok-clause-grants
returns-in-Ok-clause-grants g c = kept_grants g (goal.at.returns-in-Ok-clause-grants g c).After-write_from_owner

pub returns-in-Err-clause-grants : goal.returns-in-Err-clause-grants
returns-in-Err-clause-grants g c = kept_grants g (goal.at.returns-in-Err-clause-grants g c).After-write_from_owner

pub returns-in-Err-clause-asked : goal.returns-in-Err-clause-asked
returns-in-Err-clause-asked g c = missed_by _ c.fault_of.result c.in-Err.miss c.args.place.page c.fault_of.ensures

-- Accesses that are ready, and admitted

-- the owner is at hand
hand_there : (g : Over) (c : After-self g) → is_ready c.args.self.now c.args.actor.0 c.args.address ≡ true → is_at_hand (own_of c.self.inside.caches c.args.nodes.owner) ≡ true
hand_there g c ready =
    let i = c.self.inside in
    let o = told_nodes g c in
    let r = found g c in
    sym (ready_hand i.caches i.store i.contexts i.live c.self.invariant.sound c.args.self.now c.self.view_is c.args.actor.0 c.args.address (length c.args.piece.now) (found_at r.region c.args.place) (sym r.is) c.args.nodes.node c.args.nodes.owner o.held o.owner o.name) ∙ ready

pub returns-in-Ok-clause-no_more : goal.returns-in-Ok-clause-no_more
returns-in-Ok-clause-no_more g c = λ ready.
    let at = goal.at.returns-in-Ok-clause-no_more g c in
    let i = c.self.inside in
    let n = c.write_from_owner.new in
    let e = c.write_from_owner.ensures in
    let nodes = c.self.invariant.sound.nodes in
    let o = told_nodes g at.After-self in
    seen_no_more i.caches n.caches i.store c.remember.new.store i.contexts c.self.view_is
    (written_hand (world_at g.M.Mapper c.args.mapper.now i.caches i.store) (world_at g.M.Mapper n.mapper n.caches n.store) e.answered.kept nodes.sound nodes.consistent.shaped c.args.nodes.node c.args.nodes.owner o.held o.owner (hand_there g at.After-self ready) (e.frames c.args.nodes.owner o.owner) c.in-Ok.ensures.ready.forest)

pub returns-in-Err-clause-no_more : goal.returns-in-Err-clause-no_more
returns-in-Err-clause-no_more g c = λ ready.
    let at = goal.at.returns-in-Err-clause-no_more g c in
    let i = c.self.inside in
    let n = c.write_from_owner.new in
    let e = c.write_from_owner.ensures in
    let nodes = c.self.invariant.sound.nodes in
    let o = told_nodes g at.After-self in
    seen_no_more i.caches n.caches i.store n.store i.contexts c.self.view_is
    (missed_hand (world_at g.M.Mapper c.args.mapper.now i.caches i.store) (world_at g.M.Mapper n.mapper n.caches n.store) c.in-Err.ensures.missed.still nodes.sound nodes.consistent.shaped c.args.nodes.node c.args.nodes.owner o.owner (hand_there g at.After-self ready) (e.frames c.args.nodes.owner o.owner))

pub returns-in-Ok-clause-admits : goal.returns-in-Ok-clause-admits
returns-in-Ok-clause-admits g c =
    let i = c.self.inside in
    let n = c.write_from_owner.new in
    seen_admits i.caches n.caches i.store c.remember.new.store i.contexts c.self.view_is c.write_from_owner.ensures.answered.kept.nodes.caches

pub returns-in-Err-clause-admits : goal.returns-in-Err-clause-admits
returns-in-Err-clause-admits g c =
    let i = c.self.inside in
    let n = c.write_from_owner.new in
    seen_admits i.caches n.caches i.store n.store i.contexts c.self.view_is c.write_from_owner.ensures.answered.kept.nodes.caches

pub returns-in-Ok-clause-no_pull : goal.returns-in-Ok-clause-no_pull
returns-in-Ok-clause-no_pull g c = λ ready.
    let at = (goal.at.returns-in-Ok-clause-no_pull g c).After-self in
    let o = told_nodes g at in
    c.write_from_owner.ensures.no_pull c.args.nodes.owner o.owner (hand_there g at ready)

pub returns-in-Err-clause-no_pull : goal.returns-in-Err-clause-no_pull
returns-in-Err-clause-no_pull g c = λ ready.
    let at = (goal.at.returns-in-Err-clause-no_pull g c).After-self in
    let o = told_nodes g at in
    c.write_from_owner.ensures.no_pull c.args.nodes.owner o.owner (hand_there g at ready)

pub returns-in-Err-clause-victim : goal.returns-in-Err-clause-victim
returns-in-Err-clause-victim g c = λ ready.
    let at = (goal.at.returns-in-Err-clause-victim g c).After-self in
    let o = told_nodes g at in
    let miss : c.in-Err.miss ≡ Victim = subst (λ (r : Result FrameId Miss). IfErr r (λ m. m ≡ Victim)) c.in-Err.is (c.write_from_owner.ensures.victim c.args.nodes.owner o.owner (hand_there g at ready)) in
    ap (λ (f : FaultAt). troubles.Mapper f) (c.fault_of.ensures ∙ ap (λ (m : Miss). fault_at m c.args.place.page) miss)
