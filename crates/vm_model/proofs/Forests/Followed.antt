-- Each answer is followed by the forest.
use Rattle.std.proofs.Common.{◌≡◌, ℕ, zero, suc, ◌+◌, ◌-◌, ◌≤◌, true, false, List, [], ◌∷◌, ◌++◌, length, set, replicate, Option, Some, None, refl, sym, ap, subst, ◌∙◌, arith}
use Rattle.std.specs.Prelude.{◌||◌, nat_lt, option_and_then, slice_get, unwrap_or, IsSome, IfOk, Result, Ok, Err, All}
use Rattle.std.specs.Option.{option_map_or}
use Rattle.std.proofs.lemmas.Bool.Decides.{nat_tests}
use Rattle.std.specs.FinMap.{get}
use Rattle.std.proofs.lemmas.List.{length-append}
use Rattle.std.proofs.lemmas.List.FromFn.{length-map-range_with_len}
use Rattle.std.proofs.lemmas.List.Elements.{All-get_or}
use Rattle.std.proofs.lemmas.Option.{get_or_from_slice_get, slice_get_within}
use Rattle.vm_ids.specs.Counting.{MapperCounts}
use Rattle.vm_ids.specs.Held.{Segments}
use Rattle.vm_ids.specs.declared.command.Command.{Command}
use Rattle.vm_ids.specs.declared.command.Command.TheVariants as commands
use Rattle.vm_ids.specs.declared.command.Extent.{Extent}
use Rattle.vm_ids.specs.declared.command.Prot.{Prot}
use Rattle.vm_ids.specs.declared.command.Span.{Span}
use Rattle.vm_ids.specs.declared.node_name.NodeName.{NodeName}
use Rattle.vm_ids.specs.declared.numbers.ActorId.{ActorId}
use Rattle.vm_ids.specs.declared.numbers.CacheId.{CacheId}
use Rattle.vm_ids.specs.declared.numbers.PageNo.{PageNo}
use Rattle.vm_ids.specs.declared.numbers.RegionId.{RegionId}
use Rattle.vm_ids.specs.declared.numbers.SegId.{SegId}
use Rattle.vm_ids.specs.declared.command.Mapping.{Mapping}
use Rattle.vm_ids.specs.declared.refusal.Refusal.{Refusal}
use Rattle.vm_ids.specs.declared.reply.FaultAt.{FaultAt}
use Rattle.vm_ids.specs.declared.reply.FaultAt.TheVariants as faults
use Rattle.vm_ids.specs.declared.reply.Trouble.TheVariants as troubles
use Rattle.vm_ids.specs.Forest.Saving.{saves, unsaved}
use Rattle.vm_ids.specs.Forest.Commands.{page_names, make, invalidate, destroy, lock}
use Rattle.vm_ids.proofs.Forest.Saving.{no_more_saves}
use Rattle.vm_model.specs.Machine.{Machine, Cache, Page, actor_of, cache_of, pages_in, zero_page}
use Rattle.vm_model.specs.Place.{Place, place}
use Rattle.vm_model.specs.Regions.{region_with, with_lock}
use Rattle.vm_model.specs.PageForest.{PageForest, told, nodes_of, nodes_in, page_in}
use Rattle.vm_model.specs.Answering.{Answer, Answered, answer_of, change_region, is_named, make_actor_of, exit_actor_of, make_temp_of, open_of, opened, destroy_of, copy_of, move_of, map_of, split_of, protect_of, lock_of, unlock_of, unmap_of, status_of, find_of, load_of, store_of, sync_of, flush_of, invalidate_of, held_for, held_part, chain_answer, overwrite, page_at, passes_end, put_cache, put_page, put_pages, temporary, write_at}
use Rattle.vm_model.specs.Asking.{IsWellFormed}
use Rattle.vm_model.specs.Following.{followed, forest_after, pages_locked, pages_passed, pages_saved, written_at}
use Rattle.vm_model.specs.Outcome.{HasWholePages, IsWhole, MayFault, Outcome}
use Rattle.vm_model.specs.Laws.{IsFollowed, IsLaid, HasMappedPages, AnswersAreFollowed, EarlierSavesWereLeft}
use Rattle.vm_model.proofs.Parts.ListParts.{numbered_pushed}
use Rattle.vm_model.proofs.Machines.Sound.{numbered-all}
use Rattle.vm_model.proofs.Outcomes.Laid.{laid_machines_are_mapped}
use Rattle.vm_model.proofs.Outcomes.Rows.{each_unless, each_some, each_ok}
use Rattle.vm_model.proofs.Forests.CachesFollowed.{destroyed_followed, made_followed, saves_followed, stays}
use Rattle.vm_model.proofs.Forests.Following.{IsAllowed, copied_followed, copied_machine, invalidated_followed, invalidated_there, moved_followed, moved_machine, source_left, stored_followed, zero_left}
use Rattle.vm_model.proofs.Forests.Locked.{passed_locked, region_locked}

-- the forest follows the row
abbrev RowFollowed : PageForest → Machine → Command → Answered → Type 0
RowFollowed f m c a = IsFollowed a.next (forest_after f m c a.answer a.next)

neither : (a b x y : ℕ) → (nat_lt a b || nat_lt x y) ≡ false → (b ≤ a) × (y ≤ x)
neither a b x y e = (grind (arith, nat_tests), grind (arith, nat_tests))

not_past : (a b : ℕ) → nat_lt a b ≡ false → b ≤ a
not_past a b e = grind (arith, nat_tests)

-- the same page at every place of a whole cache
whole_cache : (m : Machine) (n : ℕ) (c : Cache) → HasWholePages m → cache_of m n ≡ Some c → All (λ p. length p ≡ m.page_bytes) c.pages
whole_cache m n c w there = numbered-all (IsWhole m.page_bytes) m.caches n c there w

pub some_page : (m : Machine) (n page : ℕ) → IsSome (page_in m n page) → (c : Cache) × (cache_of m n ≡ Some c) × (p : Page) × (slice_get c.pages page ≡ Some p)
some_page m n page some = at (cache_of m n) refl some
  where
    in_cache : (c : Cache) → cache_of m n ≡ Some c → (o : Option Page) → slice_get c.pages page ≡ o → IsSome o → (c : Cache) × (cache_of m n ≡ Some c) × (p : Page) × (slice_get c.pages page ≡ Some p)
    in_cache c e None q some = absurd (cc)
    in_cache c e (Some p) q some = (c, e, p, q)

    at : (o : Option Cache) → cache_of m n ≡ o → IsSome (option_and_then (λ (c : Cache). slice_get c.pages page) o) → (c : Cache) × (cache_of m n ≡ Some c) × (p : Page) × (slice_get c.pages page ≡ Some p)
    at None e some = absurd (cc)
    at (Some c) e some = in_cache c e (slice_get c.pages page) refl some

module _ (m : Machine) (f : PageForest) (F : IsFollowed m f) where
  -- a cache is added
  more_followed : (c : Cache) → let next : Machine = record m { caches = m.caches ++ Some c ∷ [] } in IsFollowed next (make (nodes_of (length next.caches) (cache_of next (length next.caches))) f)
  more_followed c =
      let next : Machine = record m { caches = m.caches ++ Some c ∷ [] } in
      let new : length next.caches ≡ length m.caches + 1 = length-append m.caches (Some c ∷ []) in
      subst (λ (o : Option Cache). IsFollowed next (make (nodes_of (length next.caches) o) f)) (sym (numbered_pushed m.caches (Some c) (length next.caches) new)) (made_followed m f (length next.caches) c new F)

  temp_row : (pages : ℕ) → RowFollowed f m (commands.MakeTemp pages) (make_temp_of m pages)
  unfolding make_temp_of
  temp_row pages = each_unless (RowFollowed f m (commands.MakeTemp pages)) _ _ m _ F (λ e. more_followed (temporary m.page_bytes pages))

  open_row : (seg : SegId) (held : Option (List Page)) → RowFollowed f m (commands.OpenSegment seg) (open_of m seg.0 held)
  unfolding open_of
  open_row seg held =
      let P : Answered → Type 0 = RowFollowed f m (commands.OpenSegment seg) in
      each_unless P _ _ m _ F (λ free.
      each_unless P _ _ m _ F (λ fewer.
      each_some P held _ m _ F (λ pages holds.
      each_unless P _ _ m _ F (λ room. more_followed (opened seg.0 pages)))))

  sync_row : (e : Extent) → RowFollowed f m (commands.Sync e) (sync_of m e)
  unfolding sync_of
  sync_row e =
      let P : Answered → Type 0 = RowFollowed f m (commands.Sync e) in
      each_some P _ _ m _ F (λ c there.
      each_some P _ _ m _ F (λ seg named.
      each_unless P _ _ m _ F (λ inside. F)))

  flush_row : (e : Extent) → RowFollowed f m (commands.Flush e) (flush_of m e)
  unfolding flush_of
  flush_row e =
      let P : Answered → Type 0 = RowFollowed f m (commands.Flush e) in
      each_some P _ _ m _ F (λ c there.
      each_some P _ _ m _ F (λ seg named.
      each_unless P _ _ m _ F (λ inside.
      each_unless P _ _ m _ F (λ unlocked. F))))

  invalidate_row : (e : Extent) (held : Option (List Page)) → RowFollowed f m (commands.Invalidate e) (invalidate_of m e held)
  unfolding invalidate_of
  invalidate_row e held =
      let P : Answered → Type 0 = RowFollowed f m (commands.Invalidate e) in
      each_some P (cache_of m e.cache.0) _ m _ F (λ c there.
      each_some P c.segment _ m _ F (λ seg named.
      each_unless P (passes_end c e.first.0 e.pages) _ m _ F (λ inside.
      each_unless P _ _ m _ F (λ unlocked.
      let part : List Page = held_part held e.first.0 e.pages in
      let ends : e.first.0 + e.pages ≤ length c.pages = not_past _ _ inside in
      let many : length part ≡ e.pages = length-map-range_with_len _ e.first.0 e.pages in
      let next : Machine = put_cache m e.cache.0 (put_pages e.first.0 part c) in
      subst (λ (o : Option Cache). IsFollowed next (invalidate (nodes_in e o) f)) (sym (invalidated_there m f F e c part there ends many)) (invalidated_followed m f F e c part there ends many)))))

  destroy_row : (cache : CacheId) → RowFollowed f m (commands.Destroy cache) (destroy_of m cache.0)
  unfolding destroy_of
  destroy_row cache =
      let P : Answered → Type 0 = RowFollowed f m (commands.Destroy cache) in
      each_some P (cache_of m cache.0) _ m _ F (λ c there.
      each_unless P _ _ m _ F (λ free.
      subst (λ (n : ℕ). IsFollowed (record m { caches = set m.caches (cache.0 - 1) None }) (destroy (is_named m cache.0) (page_names cache 0 n) f)) (sym (ap pages_in there)) (destroyed_followed m f (is_named m cache.0) cache c there F)))

  copy_row : (s : Span) (h : Segments) → RowFollowed f m (commands.Copy s) (copy_of m s h)
  unfolding copy_of
  copy_row s h =
      let P : Answered → Type 0 = RowFollowed f m (commands.Copy s) in
      each_some P (cache_of m s.from.0) _ m _ F (λ source from.
      each_some P (cache_of m s.to.0) _ m _ F (λ destination to.
      each_unless P (passes_end source s.from_page.0 s.pages || passes_end destination s.to_page.0 s.pages) _ m _ F (λ inside.
      let ends : (s.from_page.0 + s.pages ≤ length source.pages) × (s.to_page.0 + s.pages ≤ length destination.pages) = neither _ _ _ _ inside in
      each_unless P _ _ m _ F (λ apart.
      each_unless P _ _ m _ F (λ unlocked.
      each_unless P _ _ m _ F (λ allowed.
      copied_followed m f s source destination F (record { from = from; to = to; source_ends = ends.0; destination_ends = ends.1; apart = apart }) (is_named m s.to.0)))))))

  move_row : (s : Span) (h : Segments) → 1 ≤ s.pages → RowFollowed f m (commands.Move s) (move_of m s h)
  unfolding move_of
  move_row s h some =
      let P : Answered → Type 0 = RowFollowed f m (commands.Move s) in
      each_some P (cache_of m s.from.0) _ m _ F (λ source from.
      each_some P (cache_of m s.to.0) _ m _ F (λ destination to.
      each_unless P (passes_end source s.from_page.0 s.pages || passes_end destination s.to_page.0 s.pages) _ m _ F (λ inside.
      let ends : (s.from_page.0 + s.pages ≤ length source.pages) × (s.to_page.0 + s.pages ≤ length destination.pages) = neither _ _ _ _ inside in
      each_unless P _ _ m _ F (λ temporary.
      each_unless P _ _ m _ F (λ apart.
      each_unless P _ _ m _ F (λ unlocked.
      each_unless P _ _ m _ F (λ allowed.
      let A : IsAllowed m s source destination = record { from = from; to = to; source_ends = ends.0; destination_ends = ends.1; apart = apart } in
      let next : Machine = moved_machine m f s source destination F A (zero_page m.page_bytes) in
      let zeros : page_in next s.from.0 s.from_page.0 ≡ Some (zero_page m.page_bytes) = zero_left m f s source destination F A (zero_page m.page_bytes) s.from_page.0 (omega arith) (omega (arith, some)) in
      let all : IsFollowed next (followed f m (commands.Move s) next) = moved_followed m f s source destination F A (zero_page m.page_bytes) (is_named m s.to.0) (told (unwrap_or (page_in next s.from.0 s.from_page.0) [])) (ap (λ (o : Option Page). told (unwrap_or o [])) zeros) in
      subst (λ (n : Machine). IsFollowed n (followed f m (commands.Move s) n))
      (sym (ap (λ (o : Option Cache). option_map_or (λ c. put_cache (copied_machine m f s source destination F A) s.from.0 (put_pages s.from_page.0 (replicate s.pages (zero_page m.page_bytes)) c)) o (copied_machine m f s source destination F A)) (source_left m f s source destination F A).1))
      all)))))))

  store_row : (actor : ActorId) (address : ℕ) (bytes : List ℕ) (h : Segments) → 1 ≤ m.page_bytes → HasWholePages m → HasMappedPages m → RowFollowed f m (commands.Store actor address bytes) (store_of m actor.0 address bytes h)
  unfolding store_of
  store_row actor address bytes h some whole mapped =
      let P : Answered → Type 0 = RowFollowed f m (commands.Store actor address bytes) in
      each_ok P (place m actor.0 address (length bytes)) m _ (λ r. F) (λ at placed.
      each_unless P _ _ m _ F (λ writes.
      each_unless P _ _ m _ F (λ allowed.
      let there = some_page m at.region.cache at.page (subst (λ (o : Result Place Refusal). IfOk o (λ (at : Place). IsSome (page_in m at.region.cache at.page))) placed (mapped actor.0 address (length bytes))) in
      let c : Cache = there.0 in
      let p : Page = there.2 in
      let size : length p ≡ m.page_bytes = ap length (sym (get_or_from_slice_get c.pages at.page p [] there.3)) ∙ All-get_or (λ p. length p ≡ m.page_bytes) c.pages at.page [] (slice_get_within c.pages at.page p there.3) (whole_cache m at.region.cache c whole there.1) in
      let read : page_at m at ≡ p = ap (λ (o : Option Cache). option_map_or (λ (c : Cache). unwrap_or (slice_get c.pages at.page) []) o []) there.1 ∙ ap (λ (o : Option Page). unwrap_or o []) there.3 in
      let next : write_at m at bytes ≡ put_cache m at.region.cache (put_page at.page (overwrite at.byte bytes p) c) =
      ap (λ (o : Option Cache). option_map_or (λ c. put_cache m at.region.cache (put_page at.page (overwrite at.byte bytes (page_at m at)) c)) o m) there.1
      ∙ ap (λ (q : Page). put_cache m at.region.cache (put_page at.page (overwrite at.byte bytes q) c)) read in
      let all = stored_followed m f at bytes c p there.1 there.3 (omega (arith, size, some)) F in
      subst (λ (n : Machine). IsFollowed n (followed f m (commands.Store actor address bytes) n)) (sym next)
      (subst (λ (o : Result Place Refusal). IsFollowed (put_cache m at.region.cache (put_page at.page (overwrite at.byte bytes p) c)) (written_at f o bytes)) (sym placed) all))))

  actor_row : RowFollowed f m commands.MakeActor (make_actor_of m)
  unfolding make_actor_of
  actor_row = each_unless (RowFollowed f m commands.MakeActor) _ _ m _ F (λ e. stays m f F _ refl)

  exit_row : (actor : ActorId) → RowFollowed f m (commands.ExitActor actor) (exit_actor_of m actor.0)
  unfolding exit_actor_of
  exit_row actor = each_some (RowFollowed f m (commands.ExitActor actor)) _ _ m _ F (λ regions here. stays m f F _ refl)

  split_row : (region : RegionId) (pages : ℕ) → RowFollowed f m (commands.Split region pages) (split_of m region.0 pages)
  unfolding split_of
  split_row region pages =
      let P : Answered → Type 0 = RowFollowed f m (commands.Split region pages) in
      each_some P _ _ m _ F (λ r there.
      each_unless P _ _ m _ F (λ fewer.
      each_unless P _ _ m _ F (λ room. stays m f F _ refl)))

  protect_row : (region : RegionId) (prot : Prot) → RowFollowed f m (commands.Protect region prot) (protect_of m region.0 prot)
  unfolding protect_of
  protect_row region prot = each_some (RowFollowed f m (commands.Protect region prot)) _ _ m _ F (λ r there. stays m f F _ refl)

  lock_row : IsLaid m → (region : RegionId) → RowFollowed f m (commands.Lock region) (lock_of m region.0)
  unfolding lock_of
  lock_row laid region =
      let P : Answered → Type 0 = RowFollowed f m (commands.Lock region) in
      each_some P (region_with region.0 m.actors) _ m _ F (λ r there.
      each_unless P _ _ m _ F (λ free.
      each_unless P _ _ m _ F (λ few.
      stays m (lock (pages_locked m region.0) f) (region_locked m f F laid region.0 r there) (change_region m region.0 (with_lock true)) refl)))

  unlock_row : (region : RegionId) → RowFollowed f m (commands.Unlock region) (unlock_of m region.0)
  unfolding unlock_of
  unlock_row region =
      let P : Answered → Type 0 = RowFollowed f m (commands.Unlock region) in
      each_some P _ _ m _ F (λ r there. each_unless P _ _ m _ F (λ locked. stays m f F _ refl))

  status_row : (region : RegionId) → RowFollowed f m (commands.Status region) (status_of m region.0)
  unfolding status_of
  status_row region = each_some (RowFollowed f m (commands.Status region)) _ _ m _ F (λ status there. F)

  find_row : (actor : ActorId) (address : ℕ) → RowFollowed f m (commands.Find actor address) (find_of m actor.0 address)
  unfolding find_of
  find_row actor address =
      let P : Answered → Type 0 = RowFollowed f m (commands.Find actor address) in
      each_some P _ _ m _ F (λ regions here. each_some P _ _ m _ F (λ r holds. F))

  map_row : (actor : ActorId) (p : Mapping) → RowFollowed f m (commands.Map actor p) (map_of m actor.0 p)
  unfolding map_of
  map_row actor p =
      let P : Answered → Type 0 = RowFollowed f m (commands.Map actor p) in
      each_some P (actor_of m actor.0) _ m _ F (λ regions here.
      each_some P (cache_of m p.extent.cache.0) _ m _ F (λ cache there.
      each_unless P _ _ m _ F (λ aligned.
      each_unless P _ _ m _ F (λ below.
      each_unless P _ _ m _ F (λ inside.
      each_unless P _ _ m _ F (λ apart.
      each_unless P _ _ m _ F (λ fewer. stays m f F _ refl)))))))

  unmap_row : (region : RegionId) → RowFollowed f m (commands.Unmap region) (unmap_of m region.0)
  unfolding unmap_of
  unmap_row region =
      let P : Answered → Type 0 = RowFollowed f m (commands.Unmap region) in
      each_some P _ _ m _ F (λ r there. each_unless P _ _ m _ F (λ unlocked. stays m f F _ refl))

  load_row : (actor : ActorId) (address length : ℕ) → RowFollowed f m (commands.Load actor address length) (load_of m actor.0 address length)
  unfolding load_of
  load_row actor address length = each_ok (RowFollowed f m (commands.Load actor address length)) _ m _ (λ r. F) (λ at e. F)

  chain_row : (cache : CacheId) (page : PageNo) → RowFollowed f m (commands.Chain cache page) (chain_answer m f cache page.0)
  unfolding chain_answer
  chain_row cache page =
      let P : Answered → Type 0 = RowFollowed f m (commands.Chain cache page) in
      each_some P _ _ m _ F (λ c there. each_unless P _ _ m _ F (λ within. F))

  module _ (laid : IsLaid m) (whole : HasWholePages m) where
    rows : (c : Command) (h : Segments) → IsWellFormed c → RowFollowed f m c (answer_of m f c h)
    rows commands.MakeActor h w = actor_row
    rows (commands.ExitActor actor) h w = exit_row actor
    rows (commands.MakeTemp pages) h w = temp_row pages
    rows (commands.OpenSegment seg) h w = open_row seg (get h.pages seg.0)
    rows (commands.Destroy cache) h w = destroy_row cache
    rows (commands.Copy span) h w = copy_row span h
    rows (commands.Move span) h w = move_row span h w
    rows (commands.Map actor mapping) h w = map_row actor mapping
    rows (commands.Split region pages) h w = split_row region pages
    rows (commands.Protect region prot) h w = protect_row region prot
    rows (commands.Lock region) h w = lock_row laid region
    rows (commands.Unlock region) h w = unlock_row region
    rows (commands.Unmap region) h w = unmap_row region
    rows (commands.Status region) h w = status_row region
    rows (commands.Find actor address) h w = find_row actor address
    rows (commands.Load actor address length) h w = load_row actor address length
    rows (commands.Store actor address piece) h w = store_row actor address piece h laid.some whole (laid_machines_are_mapped m laid)
    rows (commands.Sync extent) h w = sync_row extent
    rows (commands.Flush extent) h w = flush_row extent
    rows (commands.Invalidate extent) h w = invalidate_row extent (held_for m h extent.cache.0)
    rows (commands.PageOut count) h w = F
    rows (commands.Chain cache page) h w = chain_row cache page
    rows commands.Stat h w = F

    page_faulted : (c : Command) (h : Segments) (p : PageNo) (rises : MapperCounts) → MayFault m (Some f) c h (faults.Page p) rises → IsFollowed m (lock (pages_passed m c p.0) f)
    page_faulted (commands.Lock region) h p rises may = passed_locked m f F laid region.0 p.0 may
    page_faulted c h p rises may = F

    faulted : (c : Command) (h : Segments) (at : FaultAt) (rises : MapperCounts) → MayFault m (Some f) c h at rises → IsFollowed m (forest_after f m c (Err (troubles.Mapper at)) m)
    faulted c h faults.Opening rises may = F
    faulted c h (faults.Access p) rises may = F
    faulted c h (faults.Save done) rises may = saves_followed m f F done (pages_saved m c)
    faulted c h (faults.Page p) rises may = page_faulted c h p rises may
    faulted c h faults.Victim rises may = F

    followed_by : (next : Machine) (c : Command) (h : Segments) (a : Answer) (rises : MapperCounts) → IsWellFormed c → Outcome m (Some f) c h a next rises → IsFollowed next (forest_after f m c a next)
    followed_by next c h (Ok r) rises w o = subst (RowFollowed f m c) o (rows c h w)
    followed_by next c h (Err (troubles.Refused r)) rises w o = subst (RowFollowed f m c) o (rows c h w)
    followed_by next c h (Err (troubles.Mapper at)) rises w o = subst (λ (n : Machine). IsFollowed n (forest_after f m c (Err (troubles.Mapper at)) n)) (sym o.0) (faulted c h at rises o.2)
    followed_by next c h (Err troubles.Memory) rises w o = subst (λ (n : Machine). IsFollowed n f) (sym o.0) F

pub answers_are_followed : AnswersAreFollowed
answers_are_followed m next f c h a rises laid whole w F o = followed_by m f F laid whole next c h a rises w o

-- Saves

none_later : (f : PageForest) (xs : List NodeName) (n k : ℕ) → unsaved (saves n xs f) xs ≡ None → saves (n + k) xs f ≡ saves n xs f
none_later f xs n zero e = ap (λ (j : ℕ). saves j xs f) (let s : n + 0 ≡ n = omega arith in s)
none_later f xs n (suc k) e =
    let before = none_later f xs n k e in
    ap (λ (j : ℕ). saves j xs f) (let s : n + suc k ≡ suc (n + k) = omega arith in s)
    ∙ no_more_saves (n + k) xs f (ap (λ (g : PageForest). unsaved g xs) before ∙ e)
    ∙ before

pub earlier_saves_were_left : EarlierSavesWereLeft
earlier_saves_were_left f xs done n low some = go (unsaved (saves n xs f) xs) refl
  where
    go : (o : Option NodeName) → unsaved (saves n xs f) xs ≡ o → IsSome o
    go None e =
        let still = none_later f xs n (done - n) e in
        let same : n + (done - n) ≡ done = omega (arith, low) in
        let none : unsaved (saves done xs f) xs ≡ None = ap (λ (j : ℕ). unsaved (saves j xs f) xs) (sym same) ∙ ap (λ (g : PageForest). unsaved g xs) still ∙ e in
        absurd (cc (none, some))
    go (Some x) e = refl
