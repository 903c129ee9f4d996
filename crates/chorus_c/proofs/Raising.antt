-- By how much a command raises the counters.
use Rattle.std.proofs.Common.{◌≡◌, ℕ, ◌+◌, ◌-◌, ◌*◌, ◌≤◌, List, Option, Some, None, refl, sym, ap, ◌∙◌, arith}
use Rattle.std.specs.Prelude.{Ok, Err}
use Rattle.std.specs.Option.{option_map_or}
use Rattle.std.proofs.lemmas.List.{length-set}
use Rattle.vm_ids.specs.Counting.{MapperCounts}
use Rattle.vm_ids.specs.Held.{Segments}
use Rattle.vm_ids.specs.declared.command.Command.{Command}
use Rattle.vm_ids.specs.declared.command.Command.TheVariants as commands
use Rattle.vm_ids.specs.declared.reply.Trouble.TheVariants as troubles
use Rattle.vm_model.specs.declared.limits.TheConstants.{LIVE_PAGES}
use Rattle.vm_model.specs.Machine.{Machine, Cache, cache_of, live_pages, pages_in}
use Rattle.vm_model.specs.Place.{Place}
use Rattle.vm_model.specs.PageForest.{PageForest, forest_shown}
use Rattle.vm_model.specs.Answering.{Answer, Answered, answer_of, load_of, overwrite, page_at, put_cache, put_page, store_of}
use Rattle.vm_model.specs.Asking.{pages_touched}
use Rattle.vm_model.specs.Outcome.{Outcome}
use Rattle.vm_model.proofs.Outcomes.Rows.{each_ok, each_unless}
use Rattle.vm_model.proofs.Parts.Lists.{at_number, sum_by_same}
use Rattle.gmi_calls.specs.Calling.{RaisesMade}
use Rattle.chorus_c.specs.Parts.{raised_by}

-- as many pages are live
abbrev IsAsMany : Machine → Answered → Type 0
IsAsMany m a = live_pages a.next ≡ live_pages m

load_as_many : (m : Machine) (actor address bytes : ℕ) → IsAsMany m (load_of m actor address bytes)
unfolding load_of
load_as_many m actor address bytes = each_ok (IsAsMany m) _ m _ (λ r. refl) (λ p there. refl)

write_as_many : (m : Machine) (p : Place) (bytes : List ℕ) (o : Option Cache) → cache_of m p.region.cache ≡ o → live_pages (option_map_or (λ c. put_cache m p.region.cache (put_page p.page (overwrite p.byte bytes (page_at m p)) c)) o m) ≡ live_pages m
write_as_many m p bytes None e = refl
write_as_many m p bytes (Some c) e =
    sum_by_same pages_in m.caches (p.region.cache - 1) (Some c) (Some (put_page p.page (overwrite p.byte bytes (page_at m p)) c)) (at_number m.caches p.region.cache c e) (length-set c.pages p.page (overwrite p.byte bytes (page_at m p)))

store_as_many : (m : Machine) (actor address : ℕ) (bytes : List ℕ) (h : Segments) → IsAsMany m (store_of m actor address bytes h)
unfolding store_of
store_as_many m actor address bytes h =
    let P : Answered → Type 0 = IsAsMany m in
    each_ok P _ m _ (λ r. refl) (λ p there. each_unless P _ _ m _ refl (λ writes. each_unless P _ _ m _ refl (λ allowed. write_as_many m p bytes (cache_of m p.region.cache) refl)))

outcome_as_many : (m next : Machine) (f : Option PageForest) (c : Command) (h : Segments) (a : Answer) (rises : MapperCounts) → IsAsMany m (answer_of m (forest_shown f m) c h) → Outcome m f c h a next rises → live_pages next ≡ live_pages m
outcome_as_many m next f c h (Ok r) rises same o = sym (ap (λ (x : Answered). live_pages x.next) o) ∙ same
outcome_as_many m next f c h (Err (troubles.Refused r)) rises same o = sym (ap (λ (x : Answered). live_pages x.next) o) ∙ same
outcome_as_many m next f c h (Err (troubles.Mapper at)) rises same o = ap live_pages o.0
outcome_as_many m next f c h (Err troubles.Memory) rises same o = ap live_pages o.0

-- an access
access_raises : (m next : Machine) (c : Command) (a : Answer) (before now : ℕ) → pages_touched m c ≡ 1 → live_pages next ≡ live_pages m → RaisesMade m c a next before now → now ≤ before + 16
access_raises m next c (Ok r) before now one same made = omega (arith, made, one, same)
access_raises m next c (Err (troubles.Refused r)) before now one same made = omega (arith, made)
access_raises m next c (Err (troubles.Mapper at)) before now one same made = omega (arith, made, one, same)
access_raises m next c (Err troubles.Memory) before now one same made = omega (arith, made, one, same)

pub raises : (m next : Machine) (f : Option PageForest) (c : Command) (h : Segments) (a : Answer) (rises : MapperCounts) (before now : ℕ) → Outcome m f c h a next rises → RaisesMade m c a next before now
    → now ≤ before + 32 * LIVE_PAGES + 8 → now ≤ before + raised_by c
raises m next f (commands.Load actor address bytes) h a rises before now o made most =
    access_raises m next (commands.Load actor address bytes) a before now refl (outcome_as_many m next f (commands.Load actor address bytes) h a rises (load_as_many m actor.0 address bytes) o) made
raises m next f (commands.Store actor address piece) h a rises before now o made most =
    access_raises m next (commands.Store actor address piece) a before now refl (outcome_as_many m next f (commands.Store actor address piece) h a rises (store_as_many m actor.0 address piece h) o) made
raises m next f c h a rises before now o made most = omega (arith, most)
