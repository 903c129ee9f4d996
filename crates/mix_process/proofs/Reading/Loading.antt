-- A load of a process is the load of its actor.
use Rattle.std.proofs.Common.{◌≡◌, ◌⊎◌, inl, inr, ℕ, ◌+◌, ◌-◌, ◌%◌, ◌<◌, Bool, true, false, cond, List, [], ◌∷◌, ◌++◌, length, take, drop, Option, Some, None, refl, sym, ap, subst, ◌∙◌, arith}
use Rattle.std.specs.Prelude.{Ok, Err, Result, IsOkAnd, nat_lt, slice_get, option_map, unwrap_or}
use Rattle.std.specs.Option.{option_map_or}
use Rattle.std.proofs.lemmas.Bool.Decides.{nat_tests}
use Rattle.vm_ids.specs.declared.command.Command.TheVariants as vm_commands
use Rattle.vm_ids.specs.declared.command.MixCommand.TheVariants as commands
use Rattle.vm_ids.specs.declared.refusal.Refusal.TheVariants as refusals
use Rattle.vm_ids.specs.declared.reply.FaultAt.TheVariants as faults
use Rattle.vm_ids.specs.declared.reply.Reply.TheVariants as replies
use Rattle.vm_ids.specs.declared.reply.Trouble.TheVariants as troubles
use Rattle.vm_model.specs.Answering as vm
use Rattle.vm_model.specs.Outcome as vm_outcome
use Rattle.vm_model.specs.Place as vm_place
use Rattle.vm_model.proofs.Parts.Lists.{numbered-map}
use Rattle.interface_callers.proofs.Words.{Actor, Answer, Cache, FaultAt, IsNotRefused, Machine, MapperCounts, Mapping, Page, PageForest, PageNo, ProcId, Refusal, Region, Segments, actor_of, cache_of, numbered}
use Rattle.mix_process.specs.ProcessMachine as model
use Rattle.mix_process.specs.ProcessMachine.{ProcessMachine, area_at, pages_of}
use Rattle.mix_process.specs.Answering as mix
use Rattle.mix_process.specs.Outcome.{Outcome, Usage, page_below, page_in_piece}
use Rattle.mix_process.specs.Seen.{area_seen, cache_pages, pages_in, process_seen, processes_seen, same_area, sizes_in}
use Rattle.mix_process.specs.Tying.{IsRun}
use Rattle.mix_process.specs.declared.area.Area.{Area}
use Rattle.mix_process.specs.declared.area.Area.TheVariants.{Data, Stack, Text}
use Rattle.mix_process.specs.declared.mix.Image.{Image}
use Rattle.mix_process.specs.declared.process.Part.{Part}
use Rattle.mix_process.specs.declared.process.Process.{Process}
use Rattle.mix_process.proofs.Reading.Areas.{page_number}
use Rattle.mix_process.proofs.Reading.Seeing.{AreParts, IsBare, IsSpot, located, seen_at}

-- The pages of an area of a process that is seen
pub seen_pages : (m : Machine) (p : Process) (area : Area) → pages_of (process_seen m p) area ≡ area_seen m area p.parts.items
seen_pages m p Text = refl
seen_pages m p Data = refl
seen_pages m p Stack = refl

-- A place of the manager's machine and one of the processes are of one byte.
pub record IsSame (m : Machine) (p : Process) (regions : Actor) (address : ℕ) (at : vm_place.Place) (here : model.Place) : Type 0 where
  pub spot : IsSpot m p regions address
  pub at_is : at ≡ record { region = spot.found.region; page = spot.page; byte = address % 4096 }
  pub here_is : here ≡ record { process = process_seen m p; area = spot.found.part.area; page = page_number spot.found.part.area address; byte = address % 4096 }

-- Both are refused alike, or both are of one byte.
pub data AreSame (m : Machine) (p : Process) (regions : Actor) (address : ℕ) : Result vm_place.Place Refusal → Result model.Place Refusal → Type 0 where
  crosses : AreSame m p regions address (Err refusals.Crosses) (Err refusals.Crosses)
  nowhere : AreSame m p regions address (Err refusals.BadAddress) (Err refusals.BadAddress)
  same : (at : vm_place.Place) (here : model.Place) → IsSame m p regions address at here → AreSame m p regions address (Ok at) (Ok here)

module _ (m : Machine) (p : Process) (regions : Actor) (address : ℕ) where
  spot_same : (s : IsSpot m p regions address) → AreSame m p regions address (vm_place.placed 4096 address (Some s.found.region)) (model.place_in 4096 (process_seen m p) address (Some s.found.part.area))
  spot_same s = same _ _ (record { spot = s; at_is = λ i. record { region = s.found.region; page = s.page_is i; byte = address % 4096 }; here_is = refl })

  placed_same : IsSpot m p regions address ⊎ IsBare m p regions address → AreSame m p regions address (vm_place.placed 4096 address (vm_place.region_at 4096 address regions)) (model.place_in 4096 (process_seen m p) address (area_at 4096 (process_seen m p) address))
  placed_same (inl s) = subst (λ (o : Option Region). AreSame m p regions address (vm_place.placed 4096 address o) (model.place_in 4096 (process_seen m p) address (area_at 4096 (process_seen m p) address))) (sym s.found.at)
      (subst (λ (o : Option Area). AreSame m p regions address (vm_place.placed 4096 address (Some s.found.region)) (model.place_in 4096 (process_seen m p) address o)) (sym s.area) (spot_same s))
  placed_same (inr b) = subst (λ (o : Option Region). AreSame m p regions address (vm_place.placed 4096 address o) (model.place_in 4096 (process_seen m p) address (area_at 4096 (process_seen m p) address))) (sym b.region)
      (subst (λ (o : Option Area). AreSame m p regions address (vm_place.placed 4096 address None) (model.place_in 4096 (process_seen m p) address o)) (sym b.area) nowhere)

  crossing_same : (b : Bool) → AreSame m p regions address (vm_place.placed 4096 address (vm_place.region_at 4096 address regions)) (model.place_in 4096 (process_seen m p) address (area_at 4096 (process_seen m p) address))
      → AreSame m p regions address (cond b (Err refusals.Crosses) (vm_place.placed 4096 address (vm_place.region_at 4096 address regions))) (cond b (Err refusals.Crosses) (model.place_in 4096 (process_seen m p) address (area_at 4096 (process_seen m p) address)))
  crossing_same true h = crosses
  crossing_same false h = h

-- A living process of these.
pub record IsLiving (m : Machine) (table : List (Option Process)) (n : ℕ) (p : Process) : Type 0 where
  pub page : m.page_bytes ≡ 4096
  pub there : numbered table n ≡ Some p
  pub run : IsRun m p

module _ (m : Machine) (table : List (Option Process)) (images : List Image) (n : ℕ) (p : Process) (live : IsLiving m table n p) where
  pub process_is : model.process_of (processes_seen m table images) n ≡ Some (process_seen m p)
  process_is = numbered-map (process_seen m) table n ∙ ap (option_map (process_seen m)) live.there

  -- where an access lies in the manager's machine and among the processes
  pub places_same : (address length : ℕ) → AreSame m p live.run.regions address (vm_place.place m p.actor.0 address length) (model.place (processes_seen m table images) n address length)
  places_same address length =
      let r = live.run in
      let both = crossing_same m p r.regions address (nat_lt 4096 (address % 4096 + length)) (placed_same m p r.regions address (located m p r.regions address r.parts r.small r.mapped)) in
      let first = subst (λ (o : Option Actor). AreSame m p r.regions address (vm_place.place_of_actor 4096 o address length) (model.place_of 4096 (Some (process_seen m p)) address length)) (sym r.there) both in
      let second = subst (λ (o : Option model.Process). AreSame m p r.regions address (vm_place.place_of_actor 4096 (actor_of m p.actor.0) address length) (model.place_of 4096 o address length)) (sym process_is) first in
      subst (λ (b : ℕ). AreSame m p r.regions address (vm_place.place_of_actor b (actor_of m p.actor.0) address length) (model.place_of b (model.process_of (processes_seen m table images) n) address length)) (sym live.page) second

-- The page at a place

unwrapped : (o : Option Cache) (k : ℕ) → option_map_or (λ (c : Cache). unwrap_or (slice_get c.pages k) []) o [] ≡ unwrap_or (slice_get (option_map_or (λ (c : Cache). c.pages) o []) k) []
unwrapped None k = refl
unwrapped (Some c) k = refl

-- Its number among those of its piece

first_piece : (size : ℕ) (sizes : List ℕ) (page : ℕ) → page < size → page_in_piece (size ∷ sizes) page ≡ page
first_piece size sizes page h = ap (λ (b : Bool). cond b page (page_in_piece sizes (page - size))) (let e : nat_lt page size ≡ true = grind (arith, nat_tests) in e)

past_piece : (size : ℕ) (sizes : List ℕ) (page : ℕ) → page_in_piece (size ∷ sizes) (size + page) ≡ page_in_piece sizes page
past_piece size sizes page =
    ap (λ (b : Bool). cond b (size + page) (page_in_piece sizes (size + page - size))) (let e : nat_lt (size + page) size ≡ false = grind (arith, nat_tests) in e)
    ∙ ap (page_in_piece sizes) (let e : size + page - size ≡ page = omega arith in e)

in_piece : (area : Area) (before : List Part) (part : Part) (behind : List Part) (page : ℕ) → same_area part.area area ≡ true → page < part.pages → page_in_piece (sizes_in area (before ++ part ∷ behind)) (pages_in area before + page) ≡ page
in_piece area [] part behind page own h =
    ap (λ (b : Bool). page_in_piece (cond b (part.pages ∷ []) [] ++ sizes_in area behind) (0 + page)) own
    ∙ ap (page_in_piece (part.pages ∷ sizes_in area behind)) (let e : 0 + page ≡ page = omega arith in e)
    ∙ first_piece part.pages (sizes_in area behind) page h
in_piece area (x ∷ xs) part behind page own h = by (same_area x.area area) (in_piece area xs part behind page own h)
  where
    by : (b : Bool) → page_in_piece (sizes_in area (xs ++ part ∷ behind)) (pages_in area xs + page) ≡ page
        → page_in_piece (cond b (x.pages ∷ []) [] ++ sizes_in area (xs ++ part ∷ behind)) (cond b x.pages 0 + pages_in area xs + page) ≡ page
    by true rest =
        ap (page_in_piece (x.pages ∷ sizes_in area (xs ++ part ∷ behind))) (let e : x.pages + pages_in area xs + page ≡ x.pages + (pages_in area xs + page) = omega arith in e)
        ∙ past_piece x.pages (sizes_in area (xs ++ part ∷ behind)) (pages_in area xs + page) ∙ rest
    by false rest = ap (page_in_piece (sizes_in area (xs ++ part ∷ behind))) (let e : 0 + pages_in area xs + page ≡ pages_in area xs + page = omega arith in e) ∙ rest

module _ (m : Machine) (p : Process) (run : IsRun m p) (address : ℕ) where
  -- the page of the spot among the pages of its area
  pub spot_page : (s : IsSpot m p run.regions address) → slice_get (pages_of (process_seen m p) s.found.part.area) (page_number s.found.part.area address) ≡ slice_get (cache_pages m s.found.part.cache.0) s.page
  spot_page s =
      let f = s.found in
      ap (λ (pages : List Page). slice_get pages (page_number f.part.area address)) (seen_pages m p f.part.area)
      ∙ ap (slice_get (area_seen m f.part.area p.parts.items)) s.number
      ∙ ap (λ (parts : List Part). slice_get (area_seen m f.part.area parts) (pages_in f.part.area f.before + s.page)) f.is
      ∙ seen_at m f.before f.part f.behind s.page (subst (λ (parts : List Part). AreParts m parts) f.is run.parts) s.within

  pub page_same : (at : vm_place.Place) (here : model.Place) → IsSame m p run.regions address at here → vm.page_at m at ≡ mix.page_at here
  page_same at here s =
      let f = s.spot.found in
      let cache : f.region.cache ≡ f.part.cache.0 = ap (λ (q : Mapping). q.extent.cache.0) f.mapping in
      ap (vm.page_at m) s.at_is
      ∙ unwrapped (cache_of m f.region.cache) s.spot.page
      ∙ ap (λ (c : ℕ). unwrap_or (slice_get (cache_pages m c) s.spot.page) []) cache
      ∙ ap (λ (o : Option Page). unwrap_or o []) (sym (spot_page s.spot))
      ∙ sym (ap mix.page_at s.here_is)

  -- its number, as the manager counts it
  below : (s : IsSpot m p run.regions address) (a : Area) → s.found.part.area ≡ a → (byte : ℕ) → s.page ≡ page_below a (record { process = process_seen m p; area = s.found.part.area; page = page_number s.found.part.area address; byte = byte })
  below s Text e byte = omega (arith, s.number, run.single s.found.before s.found.behind s.found.part s.found.is (λ d. let wrong : Text ≡ Data = sym e ∙ d in cc wrong))
  below s Stack e byte = omega (arith, s.number, run.single s.found.before s.found.behind s.found.part s.found.is (λ d. let wrong : Stack ≡ Data = sym e ∙ d in cc wrong))
  below s Data e byte = let f = s.found in sym (
      ap (λ (parts : List Part). page_in_piece (sizes_in Data parts) (page_number f.part.area address)) f.is
      ∙ ap (page_in_piece (sizes_in Data (f.before ++ f.part ∷ f.behind))) (s.number ∙ ap (λ (a : Area). pages_in a f.before + s.page) e)
      ∙ in_piece Data f.before f.part f.behind s.page (ap (λ (a : Area). same_area a Data) e) s.within)

  pub below_same : (at : vm_place.Place) (here : model.Place) → IsSame m p run.regions address at here → at.page ≡ page_below here.area here
  below_same at here s =
      ap (λ (at : vm_place.Place). at.page) s.at_is ∙ below s.spot s.spot.found.part.area refl (address % 4096) ∙ sym (ap (λ (here : model.Place). page_below here.area here) s.here_is)

  pub byte_same : (at : vm_place.Place) (here : model.Place) → IsSame m p run.regions address at here → at.byte ≡ here.byte
  byte_same at here s = ap (λ (at : vm_place.Place). at.byte) s.at_is ∙ sym (ap (λ (here : model.Place). here.byte) s.here_is)

-- Loads

abbrev vm_load : Machine → ℕ → Result vm_place.Place Refusal → vm.Answered
vm_load m length o = vm.with_ok o m (λ at. vm.reply (replies.Bytes (vm.bytes_at m at length)) m)

abbrev mix_load : ProcessMachine → ℕ → Result model.Place Refusal → mix.Answered
mix_load s length o = mix.with_ok o s (λ at. mix.reply (replies.Bytes (take length (drop at.byte (mix.page_at at)))) s)

module _ (m : Machine) (p : Process) (run : IsRun m p) (address length : ℕ) (s : ProcessMachine) where
  load_row : {o : Result vm_place.Place Refusal} {here : Result model.Place Refusal} (a : Answer) (next : Machine) → AreSame m p run.regions address o here → vm_load m length o ≡ record { answer = a; next = next }
      → (mix_load s length here ≡ record { answer = a; next = s }) × (next ≡ m)
  unfolding vm.with_ok mix.with_ok
  load_row a next crosses h = (λ i. record { answer = (h i).answer; next = s }, sym (ap (λ (x : vm.Answered). x.next) h))
  load_row a next nowhere h = (λ i. record { answer = (h i).answer; next = s }, sym (ap (λ (x : vm.Answered). x.next) h))
  load_row a next (same at here is) h =
      let bytes : take length (drop here.byte (mix.page_at here)) ≡ vm.bytes_at m at length = λ i. take length (drop (sym (byte_same m p run address at here is) i) (sym (page_same m p run address at here is) i)) in
      let answer : Ok (replies.Bytes (take length (drop here.byte (mix.page_at here)))) ≡ a = ap (λ (xs : List ℕ). let r : Answer = Ok (replies.Bytes xs) in r) bytes ∙ ap (λ (x : vm.Answered). x.answer) h in
      (ap (λ (r : Answer). let x : mix.Answered = record { answer = r; next = s } in x) answer, sym (ap (λ (x : vm.Answered). x.next) h))

  -- a load isn't refused for want of room
  load_few : {o : Result vm_place.Place Refusal} {here : Result model.Place Refusal} (next : Machine) → AreSame m p run.regions address o here → vm_load m length o ≡ record { answer = Err (troubles.Refused refusals.TooMany); next = next } → ⊥
  unfolding vm.with_ok
  load_few next crosses h = absurd (cc (ap (λ (x : vm.Answered). x.answer) h))
  load_few next nowhere h = absurd (cc (ap (λ (x : vm.Answered). x.answer) h))
  load_few next (same at here is) h = absurd (cc (ap (λ (x : vm.Answered). x.answer) h))

  load_goes : {o : Result vm_place.Place Refusal} {here : Result model.Place Refusal} → AreSame m p run.regions address o here → IsNotRefused (vm_load m length o).answer → IsNotRefused (mix_load s length here).answer
  unfolding vm.with_ok mix.with_ok
  load_goes crosses h = h
  load_goes nowhere h = h
  load_goes (same at here is) h = tt

  pub missed : {o : Result vm_place.Place Refusal} {here : Result model.Place Refusal} (page : ℕ) → AreSame m p run.regions address o here → IsOkAnd o (λ (at : vm_place.Place). at.page ≡ page) → IsOkAnd here (λ (at : model.Place). page ≡ page_below at.area at)
  missed page crosses h = h
  missed page nowhere h = h
  missed page (same at here is) h = sym h ∙ below_same m p run address at here is

pub not_refused : (a : Answer) (at : FaultAt) → (at ≡ faults.Victim) ⊎ ((page : PageNo) × (at ≡ faults.Page page)) → vm_outcome.NotRefusedButFor at a → IsNotRefused a
not_refused (Ok r) at which h = tt
not_refused (Err e) at (inl v) h = absurd (subst (λ (at : FaultAt). vm_outcome.NotRefusedButFor at (Err e)) v h)
not_refused (Err e) at (inr p) h = absurd (subst (λ (at : FaultAt). vm_outcome.NotRefusedButFor at (Err e)) p.1 h)

module _ (m : Machine) (table : List (Option Process)) (images : List Image) (of : ProcId) (p : Process) (live : IsLiving m table of.0 p) (f : Option PageForest) (u : Usage) (h : Segments) where
  abbrev seen : ProcessMachine
  seen = processes_seen m table images

  load_answered : (address length : ℕ) (a : Answer) (next : Machine) → vm.load_of m p.actor.0 address length ≡ record { answer = a; next = next } → (mix.load_of seen of.0 address length ≡ record { answer = a; next = seen }) × (next ≡ m)
  unfolding vm.load_of mix.load_of
  load_answered address length a next o = load_row m p live.run address length seen a next (places_same m table images of.0 p live address length) o

  never_many : (address length : ℕ) (next : Machine) → vm.load_of m p.actor.0 address length ≡ record { answer = Err (troubles.Refused refusals.TooMany); next = next } → ⊥
  unfolding vm.load_of
  never_many address length next o = load_few m p live.run address length seen next (places_same m table images of.0 p live address length) o

  goes_on : (address length : ℕ) → IsNotRefused (vm.load_of m p.actor.0 address length).answer → IsNotRefused (mix.load_of seen of.0 address length).answer
  unfolding vm.load_of mix.load_of
  goes_on address length o = load_goes m p live.run address length seen (places_same m table images of.0 p live address length) o

  load_fault : (address length : ℕ) (at : FaultAt) (next : Machine) (rises : MapperCounts) → next ≡ m → 0 < rises.faults → vm_outcome.MayFault m f (vm_commands.Load p.actor address length) h at rises → vm_outcome.NotRefusedButFor at (vm.load_of m p.actor.0 address length).answer
      → Outcome seen u (commands.Load of address length) h (Err (troubles.Mapper at)) seen rises
  load_fault address length (faults.Page page) next rises stays rose may refused =
      (refl, rose, (missed m p live.run address length seen page.0 (places_same m table images of.0 p live address length) may.0, may.1), goes_on address length (not_refused (vm.load_of m p.actor.0 address length).answer (faults.Page page) (inr (page, refl)) refused))
  load_fault address length faults.Victim next rises stays rose may refused =
      (refl, rose, may, goes_on address length (not_refused (vm.load_of m p.actor.0 address length).answer faults.Victim (inl refl) refused))
  load_fault address length at next rises stays rose may refused = absurd may

  -- a load as it may come out
  pub load_outcome : (address length : ℕ) (a : Answer) (next : Machine) (rises : MapperCounts) → vm_outcome.Outcome m f (vm_commands.Load p.actor address length) h a next rises
      → Outcome seen u (commands.Load of address length) h a seen rises × (next ≡ m)
  load_outcome address length (Ok r) next rises o = load_answered address length (Ok r) next o
  load_outcome address length (Err (troubles.Refused refusals.TooMany)) next rises o = absurd (never_many address length next o)
  load_outcome address length (Err (troubles.Refused r)) next rises o = load_answered address length (Err (troubles.Refused r)) next o
  load_outcome address length (Err (troubles.Mapper at)) next rises o = (load_fault address length at next rises o.0 o.1 o.2 o.3, o.0)
  load_outcome address length (Err troubles.Memory) next rises o = absurd o.1
