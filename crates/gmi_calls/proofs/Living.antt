-- How many actors are alive after an answer.
use Rattle.std.proofs.Common.{◌≡◌, ℕ, ◌+◌, ◌-◌, ◌≤◌, ◌<◌, Bool, true, false, cond, List, [], ◌∷◌, length, map, replicate, Option, Some, None, refl, sym, subst, arith}
use Rattle.std.specs.Prelude.{◌||◌, is_some, nat_le, count_by, option_map, Result, Ok, Err}
use Rattle.std.specs.FinMap.{get}
use Rattle.std.specs.Option.{option_map_or}
use Rattle.std.proofs.lemmas.Bool.Decides.{nat_tests}
use Rattle.std.proofs.lemmas.List.Sums.{sum_by-cons, sum_by_push}
use Rattle.vm_ids.specs.Counting.{MapperCounts}
use Rattle.vm_ids.specs.Held.{Segments}
use Rattle.vm_ids.specs.declared.command.Command.{Command}
use Rattle.vm_ids.specs.declared.command.Command.TheVariants as commands
use Rattle.vm_ids.specs.declared.command.Extent.{Extent}
use Rattle.vm_ids.specs.declared.command.Mapping.{Mapping}
use Rattle.vm_ids.specs.declared.command.Prot.{Prot}
use Rattle.vm_ids.specs.declared.command.Span.{Span}
use Rattle.vm_ids.specs.declared.numbers.CacheId.{CacheId}
use Rattle.vm_ids.specs.declared.refusal.Refusal.{Refusal}
use Rattle.vm_ids.specs.declared.reply.Trouble.TheVariants as troubles
use Rattle.vm_model.specs.declared.limits.TheConstants.{LIVING_ACTORS, MOST_MADE}
use Rattle.vm_model.specs.Machine.{Machine, Actor, Cache, Page, Region, cache_of, living_actors, zero_page}
use Rattle.vm_model.specs.PageForest.{PageForest, forest_shown}
use Rattle.vm_model.specs.Answering.{Answer, Answered, answer_of, change_region, chain_answer, copy_of, destroy_of, exit_actor_of, find_of, flush_of, held_for, insert_region, invalidate_of, load_of, lock_of, make_actor_of, make_temp_of, map_of, move_of, open_of, overwrite, page_at, protect_of, put_cache, put_page, put_pages, put_span, region_of, split_of, status_of, store_of, sync_of, unless, unlock_of, unmap_of, with_ok, with_some, without_region}
use Rattle.vm_model.specs.Regions.{region_among, replace_in, replace_region, split_at, with_lock, with_prot}
use Rattle.vm_model.specs.Outcome.{Outcome, OutcomeAt, blank}
use Rattle.vm_model.proofs.Outcomes.Rows.{each_ok, each_some, each_unless}
use Rattle.vm_model.proofs.Parts.Lists.{at_number, sum_by_less}

-- no more actors are alive than may be, if that was so before
abbrev pub StaysFew : Machine → Machine → Type 0
StaysFew m next = living_actors m ≤ LIVING_ACTORS → living_actors next ≤ LIVING_ACTORS

-- Lists of actors

abbrev alive : Option Actor → ℕ
alive a = cond (is_some a) 1 0

-- actors whose regions change
as_many : (a b : Option Actor) (xs ys : List (Option Actor)) → alive b ≡ alive a → count_by is_some ys ≡ count_by is_some xs → count_by is_some (b ∷ ys) ≡ count_by is_some (a ∷ xs)
as_many a b xs ys same rest = omega (arith, sum_by-cons alive a xs, sum_by-cons alive b ys, same, rest)

mapped : (f : Actor → Actor) (xs : List (Option Actor)) → count_by is_some (map (option_map f) xs) ≡ count_by is_some xs
mapped f [] = refl
mapped f (None ∷ xs) = as_many None None xs (map (option_map f) xs) refl (mapped f xs)
mapped f (Some rs ∷ xs) = as_many (Some rs) (Some (f rs)) xs (map (option_map f) xs) refl (mapped f xs)

replaced : (n : ℕ) (by : Region → List Region) (xs : List (Option Actor)) → count_by is_some (replace_in n by xs) ≡ count_by is_some xs
replaced n by [] = refl
replaced n by (None ∷ xs) = as_many None None xs (replace_in n by xs) refl (replaced n by xs)
replaced n by (Some rs ∷ xs) = go (is_some (region_among n rs)) (replaced n by xs)
  where
    go : (b : Bool) → count_by is_some (replace_in n by xs) ≡ count_by is_some xs → count_by is_some (cond b (Some (replace_region n by rs) ∷ xs) (Some rs ∷ replace_in n by xs)) ≡ count_by is_some (Some rs ∷ xs)
    go true rest = as_many (Some rs) (Some (replace_region n by rs)) xs xs refl refl
    go false rest = as_many (Some rs) (Some rs) xs (replace_in n by xs) refl rest

is_below : (a b x y : ℕ) → (nat_le a b || nat_le x y) ≡ false → b < a
is_below a b x y e = grind (arith, nat_tests)

-- Answers

module _ (m : Machine) where
  abbrev Few : Answered → Type 0
  Few a = StaysFew m a.next

  by_unless : (bad : Bool) (r : Refusal) (go : Answered) → (bad ≡ false → Few go) → Few (unless bad r m go)
  by_unless bad r go goes = each_unless Few bad r m go (λ few. few) goes

  by_some : {A : Type 0} (o : Option A) (r : Refusal) (go : A → Answered) → ((x : A) → o ≡ Some x → Few (go x)) → Few (with_some o r m go)
  by_some o r go goes = each_some Few o r m go (λ few. few) goes

  by_ok : {A : Type 0} (o : Result A Refusal) (go : A → Answered) → ((x : A) → o ≡ Ok x → Few (go x)) → Few (with_ok o m go)
  by_ok o go goes = each_ok Few o m go (λ r few. few) goes

  -- a cache changes
  put_few : (n : ℕ) (change : Cache → Cache) (o : Option Cache) → StaysFew m (option_map_or (λ c. put_cache m n (change c)) o m)
  put_few n change None few = few
  put_few n change (Some c) few = few

  -- a region changes
  region_few : (n : ℕ) (by : Region → List Region) → StaysFew m (change_region m n by)
  region_few n by few = omega (arith, few, replaced n by m.actors)

  make_few : Few (make_actor_of m)
  unfolding make_actor_of
  make_few = by_unless _ _ _ (λ room few. omega (arith, is_below LIVING_ACTORS (living_actors m) MOST_MADE (length m.actors) room, sum_by_push alive m.actors (Some [])))

  exit_few : (actor : ℕ) → Few (exit_actor_of m actor)
  unfolding exit_actor_of
  exit_few actor = by_some _ _ _ (λ regions here few. omega (arith, few, sum_by_less alive m.actors (actor - 1) (Some regions) None (at_number m.actors actor regions here) (omega arith)))

  temp_few : (pages : ℕ) → Few (make_temp_of m pages)
  unfolding make_temp_of
  temp_few pages = by_unless _ _ _ (λ room few. few)

  open_few : (seg : ℕ) (held : Option (List Page)) → Few (open_of m seg held)
  unfolding open_of
  open_few seg held = by_unless _ _ _ (λ free. by_unless _ _ _ (λ fewer. by_some held _ _ (λ pages holds. by_unless _ _ _ (λ room few. few))))

  destroy_few : (cache : ℕ) → Few (destroy_of m cache)
  unfolding destroy_of
  destroy_few cache = by_some _ _ _ (λ c there. by_unless _ _ _ (λ free few. few))

  copy_few : (s : Span) (h : Segments) → Few (copy_of m s h)
  unfolding copy_of
  copy_few s h = by_some _ _ _ (λ source from. by_some _ _ _ (λ destination to. by_unless _ _ _ (λ inside. by_unless _ _ _ (λ apart. by_unless _ _ _ (λ free. by_unless _ _ _ (λ allowed few. few))))))

  map_few : (actor : ℕ) (p : Mapping) → Few (map_of m actor p)
  unfolding map_of
  map_few actor p =
      by_some _ _ _ (λ regions here. by_some _ _ _ (λ cache there. by_unless _ _ _ (λ aligned. by_unless _ _ _ (λ below. by_unless _ _ _ (λ inside. by_unless _ _ _ (λ apart. by_unless _ _ _ (λ fewer few.
      omega (arith, few, sum_by_less alive m.actors (actor - 1) (Some regions) (Some (insert_region (region_of (m.regions_made + 1) p) regions)) (at_number m.actors actor regions here) (omega arith)))))))))

  split_few : (region pages : ℕ) → Few (split_of m region pages)
  unfolding split_of
  split_few region pages = by_some _ _ _ (λ r there. by_unless _ _ _ (λ fewer. by_unless _ _ _ (λ room few. region_few region (split_at m.page_bytes pages (m.regions_made + 1)) few)))

  protect_few : (region : ℕ) (prot : Prot) → Few (protect_of m region prot)
  unfolding protect_of
  protect_few region prot = by_some _ _ _ (λ r there few. region_few region (with_prot prot) few)

  lock_few : (region : ℕ) → Few (lock_of m region)
  unfolding lock_of
  lock_few region = by_some _ _ _ (λ r there. by_unless _ _ _ (λ free. by_unless _ _ _ (λ room few. region_few region (with_lock true) few)))

  unlock_few : (region : ℕ) → Few (unlock_of m region)
  unfolding unlock_of
  unlock_few region = by_some _ _ _ (λ r there. by_unless _ _ _ (λ locked few. region_few region (with_lock false) few))

  unmap_few : (region : ℕ) → Few (unmap_of m region)
  unfolding unmap_of
  unmap_few region = by_some _ _ _ (λ r there. by_unless _ _ _ (λ free few. omega (arith, few, mapped (without_region region) m.actors)))

  status_few : (region : ℕ) → Few (status_of m region)
  unfolding status_of
  status_few region = by_some _ _ _ (λ status there few. few)

  find_few : (actor address : ℕ) → Few (find_of m actor address)
  unfolding find_of
  find_few actor address = by_some _ _ _ (λ regions here. by_some _ _ _ (λ r holds few. few))

  load_few : (actor address bytes : ℕ) → Few (load_of m actor address bytes)
  unfolding load_of
  load_few actor address bytes = by_ok _ _ (λ p there few. few)

  store_few : (actor address : ℕ) (bytes : List ℕ) (h : Segments) → Few (store_of m actor address bytes h)
  unfolding store_of
  store_few actor address bytes h = by_ok _ _ (λ p there. by_unless _ _ _ (λ writes. by_unless _ _ _ (λ allowed. put_few p.region.cache (put_page p.page (overwrite p.byte bytes (page_at m p))) (cache_of m p.region.cache))))

  sync_few : (e : Extent) → Few (sync_of m e)
  unfolding sync_of
  sync_few e = by_some _ _ _ (λ c there. by_some _ _ _ (λ seg named. by_unless _ _ _ (λ inside few. few)))

  flush_few : (e : Extent) → Few (flush_of m e)
  unfolding flush_of
  flush_few e = by_some _ _ _ (λ c there. by_some _ _ _ (λ seg named. by_unless _ _ _ (λ inside. by_unless _ _ _ (λ free few. few))))

  invalidate_few : (e : Extent) (held : Option (List Page)) → Few (invalidate_of m e held)
  unfolding invalidate_of
  invalidate_few e held = by_some _ _ _ (λ c there. by_some _ _ _ (λ seg named. by_unless _ _ _ (λ inside. by_unless _ _ _ (λ free few. few))))

  chain_few : (f : PageForest) (cache : CacheId) (page : ℕ) → Few (chain_answer m f cache page)
  unfolding chain_answer
  chain_few f cache page = by_some _ _ _ (λ c there. by_unless _ _ _ (λ within few. few))

move_few : (m : Machine) (s : Span) (h : Segments) → StaysFew m (move_of m s h).next
unfolding move_of
move_few m s h =
    by_some m _ _ _ (λ source from. by_some m _ _ _ (λ destination to. by_unless m _ _ _ (λ inside. by_unless m _ _ _ (λ temporary. by_unless m _ _ _ (λ apart. by_unless m _ _ _ (λ free. by_unless m _ _ _ (λ allowed.
    let next : Machine = put_span m s source destination in
    put_few next s.from.0 (put_pages s.from_page.0 (replicate s.pages (zero_page m.page_bytes))) (cache_of next s.from.0))))))))

-- each row of the table
rows_few : (m : Machine) (f : PageForest) (c : Command) (h : Segments) → StaysFew m (answer_of m f c h).next
rows_few m f commands.MakeActor h = make_few m
rows_few m f (commands.ExitActor actor) h = exit_few m actor.0
rows_few m f (commands.MakeTemp pages) h = temp_few m pages
rows_few m f (commands.OpenSegment seg) h = open_few m seg.0 (get h.pages seg.0)
rows_few m f (commands.Destroy cache) h = destroy_few m cache.0
rows_few m f (commands.Copy span) h = copy_few m span h
rows_few m f (commands.Move span) h = move_few m span h
rows_few m f (commands.Map actor mapping) h = map_few m actor.0 mapping
rows_few m f (commands.Split region pages) h = split_few m region.0 pages
rows_few m f (commands.Protect region prot) h = protect_few m region.0 prot
rows_few m f (commands.Lock region) h = lock_few m region.0
rows_few m f (commands.Unlock region) h = unlock_few m region.0
rows_few m f (commands.Unmap region) h = unmap_few m region.0
rows_few m f (commands.Status region) h = status_few m region.0
rows_few m f (commands.Find actor address) h = find_few m actor.0 address
rows_few m f (commands.Load actor address bytes) h = load_few m actor.0 address bytes
rows_few m f (commands.Store actor address piece) h = store_few m actor.0 address piece h
rows_few m f (commands.Sync extent) h = sync_few m extent
rows_few m f (commands.Flush extent) h = flush_few m extent
rows_few m f (commands.Invalidate extent) h = invalidate_few m extent (held_for m h extent.cache.0)
rows_few m f (commands.PageOut count) h = λ few. few
rows_few m f (commands.Chain cache page) h = chain_few m f cache page.0
rows_few m f commands.Stat h = λ few. few

same_few : (m next : Machine) → next ≡ m → StaysFew m next
same_few m next same = subst (StaysFew m) (sym same) (λ few. few)

row_few : (m : Machine) (f : Option PageForest) (c : Command) (h : Segments) (a : Answered) → answer_of m (forest_shown f m) c h ≡ a → StaysFew m a.next
row_few m f c h a is = subst (λ (a : Answered). StaysFew m a.next) is (rows_few m (forest_shown f m) c h)

outcome_few : (m next : Machine) (f : Option PageForest) (c : Command) (h : Segments) (a : Answer) (rises : MapperCounts) → Outcome m f c h a next rises → StaysFew m next
outcome_few m next f c h (Ok r) rises o = row_few m f c h _ o
outcome_few m next f c h (Err (troubles.Refused r)) rises o = row_few m f c h _ o
outcome_few m next f c h (Err (troubles.Mapper at)) rises o = same_few m next o.0
outcome_few m next f c h (Err troubles.Memory) rises o = same_few m next o.0

-- with the segments told, and without
pub stays_few : (told : Option Segments) (m next : Machine) (f : Option PageForest) (c : Command) (a : Answer) (rises : MapperCounts) → OutcomeAt told m f c a next rises → StaysFew m next
stays_few (Some h) m next f c a rises o = outcome_few m next f c h a rises o
stays_few None m next f c a rises o =
    subst (λ (m : Machine). StaysFew m next) (sym o.is) (subst (StaysFew (blank o.whole)) (sym o.is_next) (outcome_few o.whole o.whole_next f c o.segments o.whole_answer rises o.outcome))
