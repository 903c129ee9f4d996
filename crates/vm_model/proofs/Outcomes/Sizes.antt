-- What an answer leaves of the page size, and how many pages it leaves and touches.
use Rattle.std.proofs.Common.{◌≡◌, ℕ, ◌+◌, ◌-◌, ◌*◌, ◌≤◌, false, List, length, take, drop, replicate, Option, Some, None, refl, sym, ap, ◌∙◌, inl, inr, arith}
use Rattle.std.specs.Prelude.{◌||◌, nat_lt, nat_le, min}
use Rattle.std.specs.Option.{option_map_or}
use Rattle.std.proofs.lemmas.Bool.Decides.{nat_tests}
use Rattle.std.proofs.lemmas.List.{length-replicate, length-set, length-take-le, length-drop}
use Rattle.std.proofs.Math.Nat.{min-le_right}
use Rattle.std.specs.FinMap.{get}
use Rattle.std.proofs.lemmas.List.FromFn.{length-map-range_with_len}
use Rattle.std.proofs.lemmas.List.Sums.{sum_by_push}
use Rattle.vm_ids.specs.Held.{Segments}
use Rattle.vm_ids.specs.declared.command.Command.{Command}
use Rattle.vm_ids.specs.declared.command.Command.TheVariants as commands
use Rattle.vm_ids.specs.declared.command.Extent.{Extent}
use Rattle.vm_ids.specs.declared.command.Prot.{Prot}
use Rattle.vm_ids.specs.declared.command.Mapping.{Mapping}
use Rattle.vm_ids.specs.declared.command.Span.{Span}
use Rattle.vm_ids.specs.declared.numbers.ActorId.{ActorId}
use Rattle.vm_ids.specs.declared.numbers.CacheId.{CacheId}
use Rattle.vm_ids.specs.declared.numbers.RegionId.{RegionId}
use Rattle.vm_ids.specs.declared.numbers.PageNo.{PageNo}
use Rattle.vm_ids.specs.declared.numbers.SegId.{SegId}
use Rattle.vm_ids.specs.declared.reply.Reply.{Reply}
use Rattle.vm_ids.specs.declared.reply.FaultAt.TheVariants as faults
use Rattle.vm_ids.specs.declared.refusal.Refusal.{Refusal}
use Rattle.vm_model.specs.declared.limits.TheConstants.{LIVE_PAGES}
use Rattle.vm_model.specs.Machine.{Machine, Cache, Page, Region, zero_page, actor_of, cache_of, live_pages, pages_in}
use Rattle.vm_model.specs.Place.{Place}
use Rattle.vm_model.specs.Regions.{region_with}
use Rattle.vm_model.specs.PageForest.{PageForest}
use Rattle.vm_model.specs.Answering.{Answered, refuse, reply, answer_of, make_actor_of, exit_actor_of, make_temp_of, open_of, opened, destroy_of, copy_of, move_of, map_of, split_of, protect_of, lock_of, unlock_of, unmap_of, status_of, find_of, load_of, store_of, sync_of, flush_of, invalidate_of, held_for, held_part, chain_answer, passes_end, temporary, overwrite, put_cache, put_pages, put_page, page_at}
use Rattle.vm_model.specs.Asking.{pages_of_region, pages_touched}
use Rattle.vm_model.specs.Outcome.{NotRefusedButFor}
use Rattle.vm_model.proofs.Parts.Lists.{length-overwrite, at_number, numbered-set, sum_by_same, sum_by_part, sum_by_less}
use Rattle.vm_model.proofs.Outcomes.Rows.{each_unless, each_some, each_ok}

-- The page size stays; live pages stay within their limit; and what isn't refused touches few
-- pages.
pub record HasSizes (m : Machine) (c : Command) (a : Answered) : Type 0 where
  pub page : a.next.page_bytes ≡ m.page_bytes
  pub live : live_pages m ≤ LIVE_PAGES → live_pages a.next ≤ LIVE_PAGES
  pub touched : live_pages m ≤ LIVE_PAGES → NotRefusedButFor (faults.Access (record { 0 = 0 })) a.answer → pages_touched m c ≤ 3 * LIVE_PAGES

refused : (m : Machine) (c : Command) (r : Refusal) → (live_pages m ≤ LIVE_PAGES → NotRefusedButFor (faults.Access (record { 0 = 0 })) (refuse m r).answer → pages_touched m c ≤ 3 * LIVE_PAGES) → HasSizes m c (refuse m r)
refused m c r t = record { page = refl; live = λ h. h; touched = t }

actor_sizes : (m : Machine) → HasSizes m commands.MakeActor (make_actor_of m)
unfolding make_actor_of
actor_sizes m = each_unless (HasSizes m commands.MakeActor) _ _ m _ (refused m _ _ (λ h n. omega arith)) (λ e. record { page = refl; live = λ h. h; touched = λ h n. omega arith })

exit_sizes : (m : Machine) (actor : ActorId) → HasSizes m (commands.ExitActor actor) (exit_actor_of m actor.0)
unfolding exit_actor_of
exit_sizes m actor = each_some (HasSizes m (commands.ExitActor actor)) _ _ m _ (refused m _ _ (λ h n. omega arith)) (λ regions here. record { page = refl; live = λ h. h; touched = λ h n. omega arith })

within : (a b x y : ℕ) → (nat_le a b || nat_lt x y) ≡ false → y ≤ x
within a b x y e = grind (arith, nat_tests)

temp_sizes : (m : Machine) (pages : ℕ) → HasSizes m (commands.MakeTemp pages) (make_temp_of m pages)
unfolding make_temp_of
temp_sizes m pages = each_unless (HasSizes m (commands.MakeTemp pages)) _ _ m _ (refused m _ _ (λ h n. omega arith)) (λ e.
    let few : live_pages m + pages ≤ LIVE_PAGES = within _ _ _ _ e in
    record {
      page = refl;
      live = λ h. omega (arith, few, sum_by_push pages_in m.caches (Some (temporary m.page_bytes pages)), length-replicate pages (zero_page m.page_bytes));
      touched = λ h n. omega arith;
    })

not_past : (a b : ℕ) → nat_lt a b ≡ false → b ≤ a
not_past a b e = grind (arith, nat_tests)

open_sizes : (m : Machine) (seg : SegId) (held : Option (List Page)) → HasSizes m (commands.OpenSegment seg) (open_of m seg.0 held)
unfolding open_of
open_sizes m seg held =
    let P : Answered → Type 0 = HasSizes m (commands.OpenSegment seg) in
    each_unless P _ _ m _ (refused m _ _ (λ h n. omega arith)) (λ free.
    each_unless P _ _ m _ (refused m _ _ (λ h n. omega arith)) (λ fewer.
    each_some P held _ m _ (refused m _ _ (λ h n. omega arith)) (λ pages holds.
    each_unless P _ _ m _ (refused m _ _ (λ h n. omega arith)) (λ room.
    let few : live_pages m + length pages ≤ LIVE_PAGES = not_past _ _ room in
    record {
      page = refl;
      live = λ h. omega (arith, few, sum_by_push pages_in m.caches (Some (opened seg.0 pages)));
      touched = λ h n. omega arith;
    }))))

some_same : (c d : Cache) → ◌≡◌ {A = Option Cache} (Some c) (Some d) → c ≡ d
some_same c d e = cc

-- no cache has more pages than all
pages_few : (m : Machine) (n : ℕ) (c : Cache) → cache_of m n ≡ Some c → length c.pages ≤ live_pages m
pages_few m n c e = sum_by_part pages_in m.caches (n - 1) (Some c) (at_number m.caches n c e)

cache_few : (m : Machine) (n : ℕ) → pages_in (cache_of m n) ≤ live_pages m
cache_few m n = go (cache_of m n) refl
  where
    go : (o : Option Cache) → cache_of m n ≡ o → pages_in o ≤ live_pages m
    go None e = omega arith
    go (Some c) e = pages_few m n c e

region_few : (m : Machine) (number : ℕ) → pages_of_region m number ≤ live_pages m
region_few m number = go (region_with number m.actors)
  where
    go : (o : Option Region) → option_map_or (λ (r : Region). min r.pages (pages_in (cache_of m r.cache))) o 0 ≤ live_pages m
    go None = omega arith
    go (Some r) = omega (arith, min-le_right r.pages (pages_in (cache_of m r.cache)), cache_few m r.cache)

-- a cache is replaced by one with as many pages
same_live : (m : Machine) (n : ℕ) (c d : Cache) → cache_of m n ≡ Some c → length d.pages ≡ length c.pages → live_pages (put_cache m n d) ≡ live_pages m
same_live m n c d e same = sum_by_same pages_in m.caches (n - 1) (Some c) (Some d) (at_number m.caches n c e) same

neither : (a b x y : ℕ) → (nat_lt a b || nat_lt x y) ≡ false → (b ≤ a) × (y ≤ x)
neither a b x y e = (grind (arith, nat_tests), grind (arith, nat_tests))

copy_sizes : (m : Machine) (s : Span) (h : Segments) → HasSizes m (commands.Copy s) (copy_of m s h)
unfolding copy_of
copy_sizes m s h =
    let P : Answered → Type 0 = HasSizes m (commands.Copy s) in
    each_some P (cache_of m s.from.0) _ m _ (refused m _ _ (λ h n. absurd n)) (λ source from.
    each_some P (cache_of m s.to.0) _ m _ (refused m _ _ (λ h n. absurd n)) (λ destination to.
    each_unless P (passes_end source s.from_page.0 s.pages || passes_end destination s.to_page.0 s.pages) _ m _ (refused m _ _ (λ h n. absurd n)) (λ inside.
    let ends : (s.from_page.0 + s.pages ≤ length source.pages) × (s.to_page.0 + s.pages ≤ length destination.pages) = neither _ _ _ _ inside in
    let few : live_pages m ≤ LIVE_PAGES → pages_touched m (commands.Copy s) ≤ 3 * LIVE_PAGES = (λ h. omega (arith, ends.0, ends.1, pages_few m s.from.0 source from, pages_few m s.to.0 destination to, ap pages_in from, ap pages_in to)) in
    each_unless P _ _ m _ (refused m _ _ (λ h n. few h)) (λ apart.
    each_unless P _ _ m _ (refused m _ _ (λ h n. few h)) (λ unlocked.
    each_unless P _ _ m _ (refused m _ _ (λ h n. few h)) (λ allowed.
    let part : List Page = take s.pages (drop s.from_page.0 source.pages) in
    let many : length part ≡ s.pages = length-take-le s.pages (drop s.from_page.0 source.pages) (omega (arith, ends.0, length-drop s.from_page.0 source.pages)) in
    record {
      page = refl;
      live = λ h. omega (arith, same_live m s.to.0 destination (put_pages s.to_page.0 part destination) to (length-overwrite s.to_page.0 part destination.pages (omega (arith, ends.1, many))));
      touched = λ h n. few h;
    }))))))

-- a cache goes
destroy_sizes : (m : Machine) (cache : CacheId) → HasSizes m (commands.Destroy cache) (destroy_of m cache.0)
unfolding destroy_of
destroy_sizes m cache =
    let P : Answered → Type 0 = HasSizes m (commands.Destroy cache) in
    each_some P (cache_of m cache.0) _ m _ (refused m _ _ (λ h n. absurd n)) (λ c there.
    each_unless P _ _ m _ (refused m _ _ (λ h n. absurd n)) (λ free.
    record {
      page = refl;
      live = λ h. omega (arith, sum_by_less pages_in m.caches (cache.0 - 1) (Some c) None (at_number m.caches cache.0 c there) (omega arith));
      touched = λ h n. omega (arith, pages_few m cache.0 c there, ap pages_in there);
    }))

-- a cache becomes another with as many pages
change_live : (m : Machine) (n : ℕ) (change : Cache → Cache) (o : Option Cache) → cache_of m n ≡ o → ((c : Cache) → o ≡ Some c → length (change c).pages ≡ length c.pages) → live_pages (option_map_or (λ c. put_cache m n (change c)) o m) ≡ live_pages m
change_live m n change None e same = refl
change_live m n change (Some c) e same = same_live m n c (change c) e (same c refl)

change_page : (m : Machine) (n : ℕ) (change : Cache → Cache) (o : Option Cache) → (option_map_or (λ c. put_cache m n (change c)) o m).page_bytes ≡ m.page_bytes
change_page m n change None = refl
change_page m n change (Some c) = refl

put_length : (first : ℕ) (pages : List Page) (c : Cache) → first + length pages ≤ length c.pages → length (put_pages first pages c).pages ≡ length c.pages
put_length first pages c h = length-overwrite first pages c.pages h

move_sizes : (m : Machine) (s : Span) (h : Segments) → HasSizes m (commands.Move s) (move_of m s h)
unfolding move_of
move_sizes m s h =
    let P : Answered → Type 0 = HasSizes m (commands.Move s) in
    each_some P (cache_of m s.from.0) _ m _ (refused m _ _ (λ h n. absurd n)) (λ source from.
    each_some P (cache_of m s.to.0) _ m _ (refused m _ _ (λ h n. absurd n)) (λ destination to.
    each_unless P (passes_end source s.from_page.0 s.pages || passes_end destination s.to_page.0 s.pages) _ m _ (refused m _ _ (λ h n. absurd n)) (λ inside.
    let ends : (s.from_page.0 + s.pages ≤ length source.pages) × (s.to_page.0 + s.pages ≤ length destination.pages) = neither _ _ _ _ inside in
    let few : live_pages m ≤ LIVE_PAGES → pages_touched m (commands.Move s) ≤ 3 * LIVE_PAGES = (λ h. omega (arith, ends.0, ends.1, pages_few m s.from.0 source from, pages_few m s.to.0 destination to, ap pages_in from, ap pages_in to)) in
    each_unless P _ _ m _ (refused m _ _ (λ h n. few h)) (λ temporary.
    each_unless P _ _ m _ (refused m _ _ (λ h n. few h)) (λ apart.
    each_unless P _ _ m _ (refused m _ _ (λ h n. few h)) (λ unlocked.
    each_unless P _ _ m _ (refused m _ _ (λ h n. few h)) (λ allowed.
    let part : List Page = take s.pages (drop s.from_page.0 source.pages) in
    let many : length part ≡ s.pages = length-take-le s.pages (drop s.from_page.0 source.pages) (omega (arith, ends.0, length-drop s.from_page.0 source.pages)) in
    let zeros : List Page = replicate s.pages (zero_page m.page_bytes) in
    let put : Cache = put_pages s.to_page.0 part destination in
    let same : length put.pages ≡ length destination.pages = put_length s.to_page.0 part destination (omega (arith, ends.1, many)) in
    let next : Machine = put_cache m s.to.0 put in
    let moved : (c : Cache) × (cache_of next s.from.0 ≡ Some c) × (length c.pages ≡ length source.pages) = elim (numbered-set m.caches s.to.0 s.from.0 destination put source to from) [
      | inl e ↦ (source, e, refl)
      | inr e ↦ (put, e.1, same ∙ sym (ap (λ (c : Cache). length c.pages) e.0))
    ] in
    record {
      page = change_page next s.from.0 (put_pages s.from_page.0 zeros) (cache_of next s.from.0);
      live = λ h. omega (
        arith,
        change_live next s.from.0 (put_pages s.from_page.0 zeros) (cache_of next s.from.0) refl
            (λ c e. put_length s.from_page.0 zeros c (let found : c ≡ moved.0 = some_same c moved.0 (sym e ∙ moved.1) in omega (arith, ends.0, length-replicate s.pages (zero_page m.page_bytes), ap (λ (c : Cache). length c.pages) found, moved.2))),
        same_live m s.to.0 destination put to same,
      );
      touched = λ h n. few h;
    })))))))

map_sizes : (m : Machine) (actor : ActorId) (p : Mapping) → HasSizes m (commands.Map actor p) (map_of m actor.0 p)
unfolding map_of
map_sizes m actor p =
    let P : Answered → Type 0 = HasSizes m (commands.Map actor p) in
    each_some P (actor_of m actor.0) _ m _ (refused m _ _ (λ h n. absurd n)) (λ regions here.
    each_some P (cache_of m p.extent.cache.0) _ m _ (refused m _ _ (λ h n. absurd n)) (λ cache there.
    each_unless P _ _ m _ (refused m _ _ (λ h n. absurd n)) (λ aligned.
    each_unless P _ _ m _ (refused m _ _ (λ h n. absurd n)) (λ below.
    each_unless P (passes_end cache p.extent.first.0 p.extent.pages) _ m _ (refused m _ _ (λ h n. absurd n)) (λ inside.
    let few : live_pages m ≤ LIVE_PAGES → pages_touched m (commands.Map actor p) ≤ 3 * LIVE_PAGES = (λ h. omega (arith, not_past _ _ inside, pages_few m p.extent.cache.0 cache there, ap pages_in there)) in
    each_unless P _ _ m _ (refused m _ _ (λ h n. few h)) (λ apart.
    each_unless P _ _ m _ (refused m _ _ (λ h n. few h)) (λ fewer.
    record { page = refl; live = λ h. h; touched = λ h n. few h })))))))

unmap_sizes : (m : Machine) (region : RegionId) → HasSizes m (commands.Unmap region) (unmap_of m region.0)
unfolding unmap_of
unmap_sizes m region =
    let P : Answered → Type 0 = HasSizes m (commands.Unmap region) in
    each_some P _ _ m _ (refused m _ _ (λ h n. absurd n)) (λ r there.
    each_unless P _ _ m _ (refused m _ _ (λ h n. absurd n)) (λ unlocked. record { page = refl; live = λ h. h; touched = λ h n. omega arith }))

split_sizes : (m : Machine) (region : RegionId) (pages : ℕ) → HasSizes m (commands.Split region pages) (split_of m region.0 pages)
unfolding split_of
split_sizes m region pages =
    let P : Answered → Type 0 = HasSizes m (commands.Split region pages) in
    each_some P _ _ m _ (refused m _ _ (λ h n. omega arith)) (λ r there.
    each_unless P _ _ m _ (refused m _ _ (λ h n. omega arith)) (λ fewer.
    each_unless P _ _ m _ (refused m _ _ (λ h n. omega arith)) (λ room. record { page = refl; live = λ h. h; touched = λ h n. omega arith })))

protect_sizes : (m : Machine) (region : RegionId) (prot : Prot) → HasSizes m (commands.Protect region prot) (protect_of m region.0 prot)
unfolding protect_of
protect_sizes m region prot = each_some (HasSizes m (commands.Protect region prot)) _ _ m _ (refused m _ _ (λ h n. omega arith)) (λ r there. record { page = refl; live = λ h. h; touched = λ h n. omega arith })

lock_sizes : (m : Machine) (region : RegionId) → HasSizes m (commands.Lock region) (lock_of m region.0)
unfolding lock_of
lock_sizes m region =
    let P : Answered → Type 0 = HasSizes m (commands.Lock region) in
    let few : live_pages m ≤ LIVE_PAGES → pages_touched m (commands.Lock region) ≤ 3 * LIVE_PAGES = (λ h. omega (arith, region_few m region.0)) in
    each_some P _ _ m _ (refused m _ _ (λ h n. few h)) (λ r there.
    each_unless P _ _ m _ (refused m _ _ (λ h n. few h)) (λ free.
    each_unless P _ _ m _ (refused m _ _ (λ h n. few h)) (λ room. record { page = refl; live = λ h. h; touched = λ h n. few h })))

unlock_sizes : (m : Machine) (region : RegionId) → HasSizes m (commands.Unlock region) (unlock_of m region.0)
unfolding unlock_of
unlock_sizes m region =
    let P : Answered → Type 0 = HasSizes m (commands.Unlock region) in
    each_some P _ _ m _ (refused m _ _ (λ h n. omega arith)) (λ r there.
    each_unless P _ _ m _ (refused m _ _ (λ h n. omega arith)) (λ locked. record { page = refl; live = λ h. h; touched = λ h n. omega arith }))

-- nothing changes, and nothing is touched
told_sizes : (m : Machine) (r : Reply) (c : Command) → pages_touched m c ≡ 0 → HasSizes m c (reply r m)
told_sizes m r c none = record { page = refl; live = λ h. h; touched = λ h n. omega (arith, none) }

status_sizes : (m : Machine) (region : RegionId) → HasSizes m (commands.Status region) (status_of m region.0)
unfolding status_of
status_sizes m region = each_some (HasSizes m (commands.Status region)) _ _ m _ (refused m _ _ (λ h n. absurd n)) (λ status there. told_sizes m _ (commands.Status region) refl)

find_sizes : (m : Machine) (actor : ActorId) (address : ℕ) → HasSizes m (commands.Find actor address) (find_of m actor.0 address)
unfolding find_of
find_sizes m actor address =
    let P : Answered → Type 0 = HasSizes m (commands.Find actor address) in
    each_some P _ _ m _ (refused m _ _ (λ h n. absurd n)) (λ regions here.
    each_some P _ _ m _ (refused m _ _ (λ h n. absurd n)) (λ r holds. told_sizes m _ (commands.Find actor address) refl))

chain_sizes : (m : Machine) (f : PageForest) (cache : CacheId) (page : PageNo) → HasSizes m (commands.Chain cache page) (chain_answer m f cache page.0)
unfolding chain_answer
chain_sizes m f cache page =
    let P : Answered → Type 0 = HasSizes m (commands.Chain cache page) in
    each_some P _ _ m _ (refused m _ _ (λ h n. absurd n)) (λ c there.
    each_unless P _ _ m _ (refused m _ _ (λ h n. absurd n)) (λ within. told_sizes m _ (commands.Chain cache page) refl))

sync_sizes : (m : Machine) (e : Extent) → HasSizes m (commands.Sync e) (sync_of m e)
unfolding sync_of
sync_sizes m e =
    let P : Answered → Type 0 = HasSizes m (commands.Sync e) in
    each_some P _ _ m _ (refused m _ _ (λ h n. absurd n)) (λ c there.
    each_some P _ _ m _ (refused m _ _ (λ h n. absurd n)) (λ seg named.
    each_unless P _ _ m _ (refused m _ _ (λ h n. absurd n)) (λ inside. told_sizes m _ (commands.Sync e) refl)))

flush_sizes : (m : Machine) (e : Extent) → HasSizes m (commands.Flush e) (flush_of m e)
unfolding flush_of
flush_sizes m e =
    let P : Answered → Type 0 = HasSizes m (commands.Flush e) in
    each_some P _ _ m _ (refused m _ _ (λ h n. absurd n)) (λ c there.
    each_some P _ _ m _ (refused m _ _ (λ h n. absurd n)) (λ seg named.
    each_unless P _ _ m _ (refused m _ _ (λ h n. absurd n)) (λ inside.
    each_unless P _ _ m _ (refused m _ _ (λ h n. absurd n)) (λ unlocked. told_sizes m _ (commands.Flush e) refl))))

invalidate_sizes : (m : Machine) (e : Extent) (held : Option (List Page)) → HasSizes m (commands.Invalidate e) (invalidate_of m e held)
unfolding invalidate_of
invalidate_sizes m e held =
    let P : Answered → Type 0 = HasSizes m (commands.Invalidate e) in
    each_some P (cache_of m e.cache.0) _ m _ (refused m _ _ (λ h n. absurd n)) (λ c there.
    each_some P c.segment _ m _ (refused m _ _ (λ h n. absurd n)) (λ seg named.
    each_unless P (passes_end c e.first.0 e.pages) _ m _ (refused m _ _ (λ h n. absurd n)) (λ inside.
    let ends : e.first.0 + e.pages ≤ length c.pages = not_past _ _ inside in
    let few : live_pages m ≤ LIVE_PAGES → pages_touched m (commands.Invalidate e) ≤ 3 * LIVE_PAGES = (λ h. omega (arith, ends, pages_few m e.cache.0 c there, ap pages_in there)) in
    each_unless P _ _ m _ (refused m _ _ (λ h n. few h)) (λ unlocked.
    let part : List Page = held_part held e.first.0 e.pages in
    let many : length part ≡ e.pages = length-map-range_with_len _ e.first.0 e.pages in
    record {
      page = refl;
      live = λ h. omega (arith, same_live m e.cache.0 c (put_pages e.first.0 part c) there (length-overwrite e.first.0 part c.pages (omega (arith, ends, many))));
      touched = λ h n. few h;
    }))))

load_sizes : (m : Machine) (actor : ActorId) (address bytes : ℕ) → HasSizes m (commands.Load actor address bytes) (load_of m actor.0 address bytes)
unfolding load_of
load_sizes m actor address bytes = each_ok (HasSizes m (commands.Load actor address bytes)) _ m _ (λ r. refused m _ r (λ h n. omega arith)) (λ p e. record { page = refl; live = λ h. h; touched = λ h n. omega arith })

write_page_size : (m : Machine) (p : Place) (bytes : List ℕ) (o : Option Cache) → (option_map_or (λ c. put_cache m p.region.cache (put_page p.page (overwrite p.byte bytes (page_at m p)) c)) o m).page_bytes ≡ m.page_bytes
write_page_size m p bytes None = refl
write_page_size m p bytes (Some c) = refl

write_live : (m : Machine) (p : Place) (bytes : List ℕ) (o : Option Cache) → cache_of m p.region.cache ≡ o → live_pages (option_map_or (λ c. put_cache m p.region.cache (put_page p.page (overwrite p.byte bytes (page_at m p)) c)) o m) ≡ live_pages m
write_live m p bytes None e = refl
write_live m p bytes (Some c) e = same_live m p.region.cache c (put_page p.page (overwrite p.byte bytes (page_at m p)) c) e (length-set c.pages p.page (overwrite p.byte bytes (page_at m p)))

store_sizes : (m : Machine) (actor : ActorId) (address : ℕ) (bytes : List ℕ) (h : Segments) → HasSizes m (commands.Store actor address bytes) (store_of m actor.0 address bytes h)
unfolding store_of
store_sizes m actor address bytes h =
    let P : Answered → Type 0 = HasSizes m (commands.Store actor address bytes) in
    each_ok P _ m _ (λ r. refused m _ r (λ h n. omega arith)) (λ p e.
    each_unless P _ _ m _ (refused m _ _ (λ h n. omega arith)) (λ writes.
    each_unless P _ _ m _ (refused m _ _ (λ h n. omega arith)) (λ allowed.
    record {
      page = write_page_size m p bytes (cache_of m p.region.cache);
      live = λ h. omega (arith, write_live m p bytes (cache_of m p.region.cache) refl);
      touched = λ h n. omega arith;
    })))

-- each row of the table
pub sizes : (m : Machine) (f : PageForest) (c : Command) (h : Segments) → HasSizes m c (answer_of m f c h)
sizes m f commands.MakeActor h = actor_sizes m
sizes m f (commands.ExitActor actor) h = exit_sizes m actor
sizes m f (commands.MakeTemp pages) h = temp_sizes m pages
sizes m f (commands.OpenSegment seg) h = open_sizes m seg (get h.pages seg.0)
sizes m f (commands.Destroy cache) h = destroy_sizes m cache
sizes m f (commands.Copy span) h = copy_sizes m span h
sizes m f (commands.Move span) h = move_sizes m span h
sizes m f (commands.Map actor mapping) h = map_sizes m actor mapping
sizes m f (commands.Split region pages) h = split_sizes m region pages
sizes m f (commands.Protect region prot) h = protect_sizes m region prot
sizes m f (commands.Lock region) h = lock_sizes m region
sizes m f (commands.Unlock region) h = unlock_sizes m region
sizes m f (commands.Unmap region) h = unmap_sizes m region
sizes m f (commands.Status region) h = status_sizes m region
sizes m f (commands.Find actor address) h = find_sizes m actor address
sizes m f (commands.Load actor address bytes) h = load_sizes m actor address bytes
sizes m f (commands.Store actor address piece) h = store_sizes m actor address piece h
sizes m f (commands.Sync extent) h = sync_sizes m extent
sizes m f (commands.Flush extent) h = flush_sizes m extent
sizes m f (commands.Invalidate extent) h = invalidate_sizes m extent (held_for m h extent.cache.0)
sizes m f (commands.PageOut count) h = told_sizes m _ (commands.PageOut count) refl
sizes m f (commands.Chain cache page) h = chain_sizes m f cache page
sizes m f commands.Stat h = told_sizes m _ commands.Stat refl
