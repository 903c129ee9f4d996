-- A store of a process is the store of its actor.
use Rattle.std.proofs.Common.{◌≡◌, inl, inr, ℕ, ◌+◌, ◌-◌, ◌<◌, Bool, true, false, List, [], ◌∷◌, length, map, set, Option, Some, None, refl, sym, ap, subst, ◌∙◌}
use Rattle.std.specs.Prelude.{Ok, Err, Result, IsOkAnd, not, is_some, slice_get, option_and_then, option_map}
use Rattle.std.specs.Bool.{IsTrue}
use Rattle.std.specs.Option.{option_map_or}
use Rattle.vm_ids.specs.declared.command.Command.TheVariants as vm_commands
use Rattle.vm_ids.specs.declared.command.MixCommand.TheVariants as commands
use Rattle.vm_ids.specs.declared.refusal.Refusal.TheVariants as refusals
use Rattle.vm_ids.specs.declared.reply.FaultAt.TheVariants as faults
use Rattle.vm_ids.specs.declared.reply.Reply.TheVariants as replies
use Rattle.vm_ids.specs.declared.reply.Trouble.TheVariants as troubles
use Rattle.vm_model.specs.Answering as vm
use Rattle.vm_model.specs.Outcome as vm_outcome
use Rattle.std.proofs.lemmas.List.{length-map, length-set}
use Rattle.vm_model.specs.Place as vm_place
use Rattle.interface_callers.proofs.Words.{Answer, Cache, FaultAt, IsNotRefused, Machine, MapperCounts, Mapping, OutcomeAt, Page, PageForest, PageNo, ProcId, Refusal, Segments, blank, blank_cache, cache_of, denies, numbered, overwrite, put_cache, put_page}
use Rattle.interface_callers.proofs.Alike.{HasShape, blank_shape, shape_back, shape_self, shape_then}
use Rattle.mix_process.specs.ProcessMachine as model
use Rattle.mix_process.specs.ProcessMachine.{ProcessMachine, may_write, pages_of, with_pages}
use Rattle.mix_process.specs.Answering as mix
use Rattle.mix_process.specs.Outcome.{Outcome, Usage}
use Rattle.mix_process.specs.Seen.{area_seen, cache_pages, pages_in, process_seen, processes_seen}
use Rattle.mix_process.specs.Tying.{AreTied, IsOwnCache, IsPart}
use Rattle.mix_process.specs.declared.area.Area.{Area}
use Rattle.mix_process.specs.declared.area.Area.TheVariants.{Data, Stack, Text}
use Rattle.mix_process.specs.declared.mix.Image.{Image}
use Rattle.mix_process.specs.declared.process.Part.{Part}
use Rattle.mix_process.specs.declared.process.Process.{Process}
use Rattle.mix_process.proofs.Reading.Loading.{AreSame, IsLiving, IsSame, byte_same, missed, not_refused, page_same, places_same, seen_pages}
use Rattle.mix_process.proofs.Reading.Loading.AreSame.{crosses, nowhere, same}
use Rattle.mix_process.proofs.Reading.PagePut.{images_put, processes_put, put_shape}
use Rattle.mix_process.proofs.Reading.Seeing.{AreParts, all_parts}
use Rattle.mix_process.proofs.Ties.Alike.{blank_pages, tied_like}

-- The areas that may be written are the process's own.

pub own_cache : (m : Machine) (a : Area) (p : Part) → may_write a ≡ true → IsPart m a p → IsOwnCache m p
own_cache m Text p e h = absurd (cc e)
own_cache m Data p e h = h
own_cache m Stack p e h = h

-- a temporary cache is named by no segment, and none of its pages is denied
not_denied : (m : Machine) (h : Segments) (cache page : ℕ) (c : Cache) → cache_of m cache ≡ Some c → c.segment ≡ None → vm.is_denied_page m h cache page ≡ false
not_denied m h cache page c there none =
    ap (λ (o : Option Cache). option_map_or (λ seg. denies h.denied seg page) (option_and_then (λ (c : Cache). c.segment) o) false) there
    ∙ ap (λ (o : Option ℕ). option_map_or (λ seg. denies h.denied seg page) o false) none

not_named : (m : Machine) (cache : ℕ) (c : Cache) → cache_of m cache ≡ Some c → c.segment ≡ None → vm.is_named m cache ≡ false
not_named m cache c there none =
    ap (λ (o : Option Cache). option_map_or (λ (c : Cache). is_some c.segment) o false) there ∙ ap is_some none

-- What a store leaves: the shape of the machine, and the images.
pub record IsPut (m next : Machine) (images : List Image) : Type 0 where
  pub shape : HasShape m next
  pub caches : length next.caches ≡ length m.caches
  pub regions : next.regions_made ≡ m.regions_made
  pub alike : (i : ℕ) (image : Image) → slice_get images i ≡ Some image → cache_pages next image.cache.0 ≡ cache_pages m image.cache.0

pub put_none : (m next : Machine) (images : List Image) → next ≡ m → IsPut m next images
put_none m next images e = subst (λ (x : Machine). IsPut m x images) (sym e) (record { shape = shape_self m; caches = refl; regions = refl; alike = λ i image f. refl })

-- the same of machines without bytes
put_blank : (w v : Machine) (images : List Image) → IsPut w v images → IsPut (blank w) (blank v) images
put_blank w v images h = record {
  shape = shape_then (blank w) w (blank v) (shape_back w (blank w) (blank_shape w)) (shape_then w v (blank v) h.shape (blank_shape v));
  caches = length-map v.caches (option_map blank_cache) ∙ h.caches ∙ sym (length-map w.caches (option_map blank_cache));
  regions = h.regions;
  alike = λ i image e. blank_pages v image.cache.0 ∙ ap (map (λ _. [])) (h.alike i image e) ∙ sym (blank_pages w image.cache.0);
}

-- Rows

abbrev vm_store : Machine → Segments → List ℕ → Result vm_place.Place Refusal → vm.Answered
vm_store m h bytes o =
    vm.with_ok o m (λ at. vm.unless (not at.region.may_write) refusals.Protection m (vm.unless (vm.is_denied_page m h at.region.cache at.page) refusals.WriteDenied m (vm.reply replies.Done (vm.write_at m at bytes))))

abbrev mix_store : ProcessMachine → ℕ → List ℕ → Result model.Place Refusal → mix.Answered
mix_store s n bytes o =
    mix.with_ok o s (λ at. mix.unless (not (may_write at.area)) refusals.Protection s (mix.reply replies.Done (mix.put_process s n (Some (mix.written_at at bytes)))))

module _ (m : Machine) (table : List (Option Process)) (spare : ℕ → Type 0) (images : List Image) (t : AreTied m (numbered table) spare images) (n : ℕ) (p : Process) (live : IsLiving m table n p) (address : ℕ) (bytes : List ℕ) where
  abbrev s : ProcessMachine
  s = processes_seen m table images

  -- What comes of a store in both machines.
  record Stored (answer : Answer) (next : Machine) (here : mix.Answered) : Type 0 where
    pub is : here ≡ record { answer = answer; next = processes_seen next table images }
    pub put : IsPut m next images

  stored : (at : vm_place.Place) (here : model.Place) → IsSame m p live.run.regions address at here → may_write here.area ≡ true → (h : Segments)
      → (vm.is_denied_page m h at.region.cache at.page ≡ false) × Stored (Ok replies.Done) (vm.write_at m at bytes) (mix.reply replies.Done (mix.put_process s n (Some (mix.written_at here bytes))))
  stored at here is writes h =
      let spot = is.spot in
      let f = spot.found in
      let area : here.area ≡ f.part.area = ap (λ (here : model.Place). here.area) is.here_is in
      let writes_part : may_write f.part.area ≡ true = ap may_write (sym area) ∙ writes in
      let split = all_parts (λ (q : Part). IsPart m q.area q) f.before (f.part ∷ f.behind) (subst (AreParts m) f.is live.run.parts) in
      let own : IsOwnCache m f.part = own_cache m f.part.area f.part writes_part split.1.0 in
      let cache : at.region.cache ≡ f.part.cache.0 = ap (λ (at : vm_place.Place). at.region.cache) is.at_is ∙ ap (λ (q : Mapping). q.extent.cache.0) f.mapping in
      let page : at.page ≡ spot.page = ap (λ (at : vm_place.Place). at.page) is.at_is in
      let new : Page = overwrite at.byte bytes (vm.page_at m at) in
      let there : cache_of m at.region.cache ≡ Some own.cache = ap (cache_of m) cache ∙ own.there in
      let next_is : vm.write_at m at bytes ≡ put_cache m f.part.cache.0 (put_page spot.page new own.cache) =
      ap (λ (o : Option Cache). option_map_or (λ c. put_cache m at.region.cache (put_page at.page new c)) o m) there ∙ (λ i. put_cache m (cache i) (put_page (page i) new own.cache)) in
      let new_is : overwrite here.byte bytes (mix.page_at here) ≡ new = λ i. overwrite (sym (byte_same m p live.run address at here is) i) bytes (sym (page_same m p live.run address at here is) i) in
      let written : mix.written_at here bytes ≡ with_pages f.part.area (set (area_seen m f.part.area p.parts.items) (pages_in f.part.area f.before + spot.page) new) (process_seen m p) =
      ap (λ (x : Page). with_pages here.area (set (pages_of here.process here.area) here.page x) here.process) new_is
      ∙ ap (λ (here : model.Place). with_pages here.area (set (pages_of here.process here.area) here.page new) here.process) is.here_is
      ∙ (λ i. with_pages f.part.area (set (seen_pages m p f.part.area i) (spot.number i) new) (process_seen m p)) in
      let seen_next = processes_put m table spare images t n p live.there f.before f.part f.behind f.is writes_part own.cache own.there own.temporary spot.page new spot.within in (
        not_denied m h at.region.cache at.page own.cache there own.temporary,
        record {
          is = (λ i. mix.reply replies.Done (mix.put_process s n (Some (written i)))) ∙ ap (λ (x : ProcessMachine). mix.reply replies.Done x) (sym seen_next) ∙ ap (λ (x : Machine). mix.reply replies.Done (processes_seen x table images)) (sym next_is);
          put = subst (λ (x : Machine). IsPut m x images) (sym next_is) (record {
            shape = put_shape m f.part.cache.0 own.cache own.there spot.page new;
            caches = length-set m.caches (f.part.cache.0 - 1) (Some (put_page spot.page new own.cache));
            regions = refl;
            alike = images_put m table spare images t n p live.there f.before f.part f.behind f.is writes_part own.cache own.there own.temporary spot.page new spot.within;
          });
        },
      )

  -- both machines' regions and areas allow the same
  allows : (at : vm_place.Place) (here : model.Place) → IsSame m p live.run.regions address at here → at.region.may_write ≡ may_write here.area
  allows at here is =
      ap (λ (at : vm_place.Place). at.region.may_write) is.at_is ∙ ap (λ (q : Mapping). q.prot.write) is.spot.found.mapping ∙ sym (ap (λ (here : model.Place). may_write here.area) is.here_is)

  unchanged : (r : Refusal) (a : Answer) (next : Machine) → vm.refuse m r ≡ record { answer = a; next = next } → Stored a next (mix.refuse s r)
  unchanged r a next h =
      let stays : next ≡ m = sym (ap (λ (x : vm.Answered). x.next) h) in
      record { is = λ i. record { answer = (h i).answer; next = processes_seen (sym stays i) table images }; put = put_none m next images stays }

  -- the row of the access, from whether it may write
  by_access : (h : Segments) (at : vm_place.Place) (here : model.Place) → IsSame m p live.run.regions address at here → (writes : Bool) → may_write here.area ≡ writes → (a : Answer) (next : Machine)
      → vm.unless (not writes) refusals.Protection m (vm.unless (vm.is_denied_page m h at.region.cache at.page) refusals.WriteDenied m (vm.reply replies.Done (vm.write_at m at bytes))) ≡ record { answer = a; next = next }
      → Stored a next (mix.unless (not writes) refusals.Protection s (mix.reply replies.Done (mix.put_process s n (Some (mix.written_at here bytes)))))
  unfolding vm.unless mix.unless
  by_access h at here is false e a next o = unchanged refusals.Protection a next o
  by_access h at here is true e a next o =
      let x = stored at here is e h in
      let row : vm.reply replies.Done (vm.write_at m at bytes) ≡ record { answer = a; next = next } = ap (λ (b : Bool). vm.unless b refusals.WriteDenied m (vm.reply replies.Done (vm.write_at m at bytes))) (sym x.0) ∙ o in
      record {
        is = x.1.is ∙ (λ i. record { answer = (row i).answer; next = processes_seen (row i).next table images });
        put = subst (λ (y : Machine). IsPut m y images) (ap (λ (x : vm.Answered). x.next) row) x.1.put;
      }

  store_row : (h : Segments) {o : Result vm_place.Place Refusal} {here : Result model.Place Refusal} (a : Answer) (next : Machine) → AreSame m p live.run.regions address o here → vm_store m h bytes o ≡ record { answer = a; next = next }
      → Stored a next (mix_store s n bytes here)
  unfolding vm.with_ok mix.with_ok
  store_row h a next crosses e = unchanged refusals.Crosses a next e
  store_row h a next nowhere e = unchanged refusals.BadAddress a next e
  store_row h a next (same at here is) e = subst (λ (b : Bool). Stored a next (mix.unless (not b) refusals.Protection s (mix.reply replies.Done (mix.put_process s n (Some (mix.written_at here bytes)))))) (allows at here is)
      (by_access h at here is at.region.may_write (sym (allows at here is)) a next e)

  -- Faults

  owned : (at : vm_place.Place) (here : model.Place) → IsSame m p live.run.regions address at here → may_write here.area ≡ true → (c : Cache) × (cache_of m at.region.cache ≡ Some c) × (c.segment ≡ None)
  owned at here is writes =
      let f = is.spot.found in
      let area : here.area ≡ f.part.area = ap (λ (here : model.Place). here.area) is.here_is in
      let split = all_parts (λ (q : Part). IsPart m q.area q) f.before (f.part ∷ f.behind) (subst (AreParts m) f.is live.run.parts) in
      let own : IsOwnCache m f.part = own_cache m f.part.area f.part (ap may_write (sym area) ∙ writes) split.1.0 in
      let cache : at.region.cache ≡ f.part.cache.0 = ap (λ (at : vm_place.Place). at.region.cache) is.at_is ∙ ap (λ (q : Mapping). q.extent.cache.0) f.mapping in
      (own.cache, ap (cache_of m) cache ∙ own.there, own.temporary)

  many_never : (b d : Bool) (x : Machine) (next : Machine) → vm.unless b refusals.Protection m (vm.unless d refusals.WriteDenied m (vm.reply replies.Done x)) ≡ record { answer = Err (troubles.Refused refusals.TooMany); next = next } → ⊥
  unfolding vm.unless
  many_never true d x next e = absurd (cc (ap (λ (a : vm.Answered). a.answer) e))
  many_never false true x next e = absurd (cc (ap (λ (a : vm.Answered). a.answer) e))
  many_never false false x next e = absurd (cc (ap (λ (a : vm.Answered). a.answer) e))

  store_few : (h : Segments) {o : Result vm_place.Place Refusal} {here : Result model.Place Refusal} (next : Machine) → AreSame m p live.run.regions address o here → vm_store m h bytes o ≡ record { answer = Err (troubles.Refused refusals.TooMany); next = next } → ⊥
  unfolding vm.with_ok
  store_few h next crosses e = absurd (cc (ap (λ (a : vm.Answered). a.answer) e))
  store_few h next nowhere e = absurd (cc (ap (λ (a : vm.Answered). a.answer) e))
  store_few h next (same at here is) e = many_never (not at.region.may_write) (vm.is_denied_page m h at.region.cache at.page) (vm.write_at m at bytes) next e

  goes_by : (writes d : Bool) (x : Machine) (y : ProcessMachine) → IsNotRefused (vm.unless (not writes) refusals.Protection m (vm.unless d refusals.WriteDenied m (vm.reply replies.Done x))).answer → IsNotRefused (mix.unless (not writes) refusals.Protection s (mix.reply replies.Done y)).answer
  unfolding vm.unless mix.unless
  goes_by false d x y e = e
  goes_by true d x y e = tt

  store_goes : (h : Segments) {o : Result vm_place.Place Refusal} {here : Result model.Place Refusal} → AreSame m p live.run.regions address o here → IsNotRefused (vm_store m h bytes o).answer → IsNotRefused (mix_store s n bytes here).answer
  unfolding vm.with_ok mix.with_ok
  store_goes h crosses e = e
  store_goes h nowhere e = e
  store_goes h (same at here is) e = subst (λ (b : Bool). IsNotRefused (mix.unless (not b) refusals.Protection s (mix.reply replies.Done (mix.put_process s n (Some (mix.written_at here bytes))))).answer) (allows at here is)
      (goes_by at.region.may_write (vm.is_denied_page m h at.region.cache at.page) (vm.write_at m at bytes) (mix.put_process s n (Some (mix.written_at here bytes))) e)

  -- no access to a page is asked for, since no cache that may be written is named
  asked_by : (at : vm_place.Place) (here : model.Place) → IsSame m p live.run.regions address at here → (page : PageNo) (writes : Bool) → may_write here.area ≡ writes → (d : Bool) (x : Machine)
      → vm_outcome.NotRefusedButFor (faults.Access page) (vm.unless (not writes) refusals.Protection m (vm.unless d refusals.WriteDenied m (vm.reply replies.Done x))).answer → vm_outcome.IsNamed m at.region.cache → ⊥
  unfolding vm.unless
  asked_by at here is page false e d x refused named = refused
  asked_by at here is page true e d x refused named =
      let own = owned at here is e in
      let not_so : vm.is_named m at.region.cache ≡ false = not_named m at.region.cache own.0 own.1 own.2 in
      let wrong : false ≡ true = subst IsTrue not_so named in
      absurd (cc wrong)

  store_asks : (h : Segments) {o : Result vm_place.Place Refusal} {here : Result model.Place Refusal} (page : PageNo) → AreSame m p live.run.regions address o here
      → IsOkAnd o (λ (at : vm_place.Place). vm_outcome.IsNamed m at.region.cache) → vm_outcome.NotRefusedButFor (faults.Access page) (vm_store m h bytes o).answer → ⊥
  unfolding vm.with_ok
  store_asks h page crosses named refused = named
  store_asks h page nowhere named refused = named
  store_asks h page (same at here is) named refused = asked_by at here is page at.region.may_write (sym (allows at here is)) (vm.is_denied_page m h at.region.cache at.page) (vm.write_at m at bytes) refused named

-- Outcomes

module _ (m : Machine) (table : List (Option Process)) (spare : ℕ → Type 0) (images : List Image) (t : AreTied m (numbered table) spare images) (of : ProcId) (p : Process) (live : IsLiving m table of.0 p) (f : Option PageForest) (u : Usage) (h : Segments) (address : ℕ) (bytes : List ℕ) where
  abbrev seen : ProcessMachine
  seen = processes_seen m table images

  store_answered : (a : Answer) (next : Machine) → vm.store_of m p.actor.0 address bytes h ≡ record { answer = a; next = next } → Stored m table spare images t of.0 p live address bytes a next (mix.store_of seen of.0 address bytes)
  unfolding vm.store_of mix.store_of
  store_answered a next o = store_row m table spare images t of.0 p live address bytes h a next (places_same m table images of.0 p live address (length bytes)) o

  never_many : (next : Machine) → vm.store_of m p.actor.0 address bytes h ≡ record { answer = Err (troubles.Refused refusals.TooMany); next = next } → ⊥
  unfolding vm.store_of
  never_many next o = store_few m table spare images t of.0 p live address bytes h next (places_same m table images of.0 p live address (length bytes)) o

  goes_on : IsNotRefused (vm.store_of m p.actor.0 address bytes h).answer → IsNotRefused (mix.store_of seen of.0 address bytes).answer
  unfolding vm.store_of mix.store_of
  goes_on o = store_goes m table spare images t of.0 p live address bytes h (places_same m table images of.0 p live address (length bytes)) o

  never_asks : (page : PageNo) → vm_outcome.IsNamedAccess m p.actor.0 address (length bytes) → vm_outcome.NotRefusedButFor (faults.Access page) (vm.store_of m p.actor.0 address bytes h).answer → ⊥
  unfolding vm.store_of
  never_asks page named refused = store_asks m table spare images t of.0 p live address bytes h page (places_same m table images of.0 p live address (length bytes)) named refused

  store_fault : (at : FaultAt) (next : Machine) (rises : MapperCounts) → next ≡ m → 0 < rises.faults → vm_outcome.MayFault m f (vm_commands.Store p.actor address bytes) h at rises → vm_outcome.NotRefusedButFor at (vm.store_of m p.actor.0 address bytes h).answer
      → Outcome seen u (commands.Store of address bytes) h (Err (troubles.Mapper at)) (processes_seen next table images) rises
  store_fault (faults.Page page) next rises stays rose may refused =
      (ap (λ (x : Machine). processes_seen x table images) stays, rose, (missed m p live.run address (length bytes) seen page.0 (places_same m table images of.0 p live address (length bytes)) may.0, may.1), goes_on (not_refused (vm.store_of m p.actor.0 address bytes h).answer (faults.Page page) (inr (page, refl)) refused))
  store_fault faults.Victim next rises stays rose may refused =
      (ap (λ (x : Machine). processes_seen x table images) stays, rose, may, goes_on (not_refused (vm.store_of m p.actor.0 address bytes h).answer faults.Victim (inl refl) refused))
  store_fault (faults.Access page) next rises stays rose may refused = absurd (never_asks page may.1 refused)
  store_fault at next rises stays rose may refused = absurd may

  -- a store as it may come out
  pub store_outcome : (a : Answer) (next : Machine) (rises : MapperCounts) → vm_outcome.Outcome m f (vm_commands.Store p.actor address bytes) h a next rises
      → Outcome seen u (commands.Store of address bytes) h a (processes_seen next table images) rises × IsPut m next images
  store_outcome (Ok r) next rises o = (let x = store_answered (Ok r) next o in (x.is, x.put))
  store_outcome (Err (troubles.Refused refusals.TooMany)) next rises o = absurd (never_many next o)
  store_outcome (Err (troubles.Refused r)) next rises o = (let x = store_answered (Err (troubles.Refused r)) next o in (x.is, x.put))
  store_outcome (Err (troubles.Mapper at)) next rises o = (store_fault at next rises o.0 o.1 o.2 o.3, put_none m next images o.0)
  store_outcome (Err troubles.Memory) next rises o = absurd o.1

-- it leaves the shape, with the segments told and without
pub store_put : (told : Option Segments) (m : Machine) (table : List (Option Process)) (spare : ℕ → Type 0) (images : List Image) → AreTied m (numbered table) spare images → (of : ProcId) (p : Process) → numbered table of.0 ≡ Some p
    → (f : Option PageForest) (address : ℕ) (bytes : List ℕ) (a : Answer) (next : Machine) (rises : MapperCounts) → OutcomeAt told m f (vm_commands.Store p.actor address bytes) a next rises → IsPut m next images
store_put (Some h) m table spare images t of p there f address bytes a next rises o =
    (store_outcome m table spare images t of p (record { page = t.page; there = there; run = t.run of.0 p there }) f (record { living = 0; actors = 0; caches = 0; regions = 0; pages = 0 }) h address bytes a next rises o).1
store_put None m table spare images t of p there f address bytes a next rises o =
    let shape : HasShape m o.whole = subst (λ (x : Machine). HasShape x o.whole) (sym o.is) (shape_back o.whole (blank o.whole) (blank_shape o.whole)) in
    let tied : AreTied o.whole (numbered table) spare images = tied_like m o.whole shape (numbered table) spare images t in
    let put : IsPut o.whole o.whole_next images = (store_outcome o.whole table spare images tied of p (record { page = tied.page; there = there; run = tied.run of.0 p there }) f (record { living = 0; actors = 0; caches = 0; regions = 0; pages = 0 }) o.segments address bytes o.whole_answer o.whole_next rises o.outcome).1 in
    subst (λ (x : Machine). IsPut x next images) (sym o.is) (subst (λ (x : Machine). IsPut (blank o.whole) x images) (sym o.is_next) (put_blank o.whole o.whole_next images put))
