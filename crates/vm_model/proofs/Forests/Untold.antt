-- Without bytes the forest follows too.
use Rattle.std.proofs.Common.{◌≡◌, ℕ, ◌+◌, ◌-◌, ◌≤◌, true, false, List, [], ◌∷◌, ◌++◌, length, set, take, drop, map, replicate, Option, Some, None, refl, sym, ap, subst, ◌∙◌, arith, inl, inr}
use Rattle.std.specs.Prelude.{◌||◌, option_map, unwrap_or, IsSome, IfOk, Result, Ok, Err}
use Rattle.std.specs.Option.{option_map_or}
use Rattle.std.specs.FinMap.{get}
use Rattle.std.proofs.lemmas.List.{length-append, length-map}
use Rattle.std.proofs.lemmas.List.FromFn.{length-map-range_with_len}
use Rattle.vm_ids.specs.Counting.{MapperCounts}
use Rattle.vm_ids.specs.Held.{Segments}
use Rattle.vm_ids.specs.declared.command.Command.{Command}
use Rattle.vm_ids.specs.declared.command.Command.TheVariants as commands
use Rattle.vm_ids.specs.declared.command.Extent.{Extent}
use Rattle.vm_ids.specs.declared.command.Prot.{Prot}
use Rattle.vm_ids.specs.declared.command.Mapping.{Mapping}
use Rattle.vm_ids.specs.declared.command.Span.{Span}
use Rattle.vm_ids.specs.declared.numbers.ActorId.{ActorId}
use Rattle.vm_ids.specs.declared.numbers.CacheId.{CacheId}
use Rattle.vm_ids.specs.declared.numbers.PageNo.{PageNo}
use Rattle.vm_ids.specs.declared.numbers.RegionId.{RegionId}
use Rattle.vm_ids.specs.declared.numbers.SegId.{SegId}
use Rattle.vm_ids.specs.declared.refusal.Refusal.{Refusal}
use Rattle.vm_ids.specs.declared.reply.FaultAt.{FaultAt}
use Rattle.vm_ids.specs.declared.reply.FaultAt.TheVariants as faults
use Rattle.vm_ids.specs.declared.reply.Reply.TheVariants as replies
use Rattle.vm_ids.specs.declared.reply.Trouble.TheVariants as troubles
use Rattle.vm_ids.specs.Forest.Commands.{page_names, span_pairs, make, copy, invalidate, destroy, lock}
use Rattle.vm_model.specs.Machine.{Machine, Cache, Page, Region, actor_of, cache_of, numbered, pages_in, zero_page}
use Rattle.vm_model.specs.Place.{Place, place}
use Rattle.vm_model.specs.Regions.{region_with, with_lock}
use Rattle.vm_model.specs.PageForest.{PageForest, told, nodes_of, nodes_in, page_in}
use Rattle.vm_model.specs.Answering.{Answer, Answered, answer_of, change_region, is_named, make_actor_of, exit_actor_of, make_temp_of, open_of, opened, destroy_of, copy_of, move_of, map_of, split_of, protect_of, lock_of, unlock_of, unmap_of, status_of, find_of, load_of, store_of, sync_of, flush_of, invalidate_of, held_for, held_part, chain_answer, overwrite, page_at, passes_end, put_cache, put_page, put_pages, temporary, write_at}
use Rattle.vm_model.specs.Asking.{IsWellFormed}
use Rattle.vm_model.specs.Following.{followed, forest_after, pages_locked, pages_passed, pages_saved, written_at}
use Rattle.vm_model.specs.Outcome.{IsAlike, MayFault, Outcome, blank, blank_cache}
use Rattle.vm_model.specs.Laws.{HasMappedPages, IsFollowed, IsLaid, LiesIn, UntoldAnswersAreFollowed}
use Rattle.vm_model.proofs.Forests.Blank.{blank_gone, blank_more, blank_pages, blank_part, blank_put, blank_replicate, blank_there, no_bytes}
use Rattle.vm_model.proofs.Forests.Followed.{some_page}
use Rattle.vm_model.proofs.Forests.Locked.{passed_locked, region_locked}
use Rattle.vm_model.proofs.Forests.CachesFollowed.{destroyed_followed, made_followed, saves_followed, stays}
use Rattle.vm_model.proofs.Forests.Following.{IsAllowed, copied_followed, invalidated_followed, invalidated_there, moved_followed, moved_machine, source_left, zero_left}
use Rattle.vm_model.proofs.Parts.Lists.{numbered-set, numbered-map}
use Rattle.vm_model.proofs.Parts.ListParts.{numbered_pushed}
use Rattle.vm_model.proofs.Outcomes.Lying.{lie_still, neither, not_past}
use Rattle.vm_model.proofs.Outcomes.Laid.{machines_stay_laid, laid_machines_are_mapped}
use Rattle.vm_model.proofs.Machines.Taking.{from_some}
use Rattle.vm_model.proofs.Outcomes.Rows.{each_unless, each_some, each_ok}
use Rattle.vm_model.proofs.Forests.UntoldWrites.{blank_page, blank_written, same_some, untold_write}

module _ (w : Machine) (f : PageForest) (F : IsFollowed (blank w) f) where
  abbrev RowUntold : Command → Answered → Type 0
  RowUntold c a = IsFollowed (blank a.next) (forest_after f (blank w) c a.answer (blank a.next))

  actor_row : RowUntold commands.MakeActor (make_actor_of w)
  unfolding make_actor_of
  actor_row = each_unless (RowUntold commands.MakeActor) _ _ w _ F (λ e. stays (blank w) f F _ refl)

  -- a cache is added
  more_untold : (c : Cache) → let next : Machine = record w { caches = w.caches ++ Some c ∷ [] } in IsFollowed (blank next) (make (nodes_of (length (blank next).caches) (cache_of (blank next) (length (blank next).caches))) f)
  more_untold c =
      let next : Machine = record w { caches = w.caches ++ Some c ∷ [] } in
      let n : ℕ = length (blank next).caches in
      let new : n ≡ length w.caches + 1 = length-map next.caches (option_map blank_cache) ∙ length-append w.caches (Some c ∷ []) in
      let made = made_followed (blank w) f n (blank_cache c) (new ∙ ap (λ (k : ℕ). k + 1) (sym (length-map w.caches (option_map blank_cache)))) F in
      subst (λ (o : Option Cache). IsFollowed (blank next) (make (nodes_of n o) f)) (sym (blank_there next n c (numbered_pushed w.caches (Some c) n new)))
      (subst (λ (m : Machine). IsFollowed m (make (nodes_of n (Some (blank_cache c))) f)) (blank_more w c) made)

  temp_row : (pages : ℕ) → RowUntold (commands.MakeTemp pages) (make_temp_of w pages)
  unfolding make_temp_of
  temp_row pages = each_unless (RowUntold (commands.MakeTemp pages)) _ _ w _ F (λ e. more_untold (temporary w.page_bytes pages))

  open_row : (seg : SegId) (held : Option (List Page)) → RowUntold (commands.OpenSegment seg) (open_of w seg.0 held)
  unfolding open_of
  open_row seg held =
      let P : Answered → Type 0 = RowUntold (commands.OpenSegment seg) in
      each_unless P _ _ w _ F (λ free.
      each_unless P _ _ w _ F (λ fewer.
      each_some P held _ w _ F (λ pages holds.
      each_unless P _ _ w _ F (λ room. more_untold (opened seg.0 pages)))))

  sync_row : (e : Extent) → RowUntold (commands.Sync e) (sync_of w e)
  unfolding sync_of
  sync_row e =
      let P : Answered → Type 0 = RowUntold (commands.Sync e) in
      each_some P _ _ w _ F (λ c there.
      each_some P _ _ w _ F (λ seg named.
      each_unless P _ _ w _ F (λ inside. F)))

  flush_row : (e : Extent) → RowUntold (commands.Flush e) (flush_of w e)
  unfolding flush_of
  flush_row e =
      let P : Answered → Type 0 = RowUntold (commands.Flush e) in
      each_some P _ _ w _ F (λ c there.
      each_some P _ _ w _ F (λ seg named.
      each_unless P _ _ w _ F (λ inside.
      each_unless P _ _ w _ F (λ unlocked. F))))

  invalidate_row : (e : Extent) (held : Option (List Page)) → RowUntold (commands.Invalidate e) (invalidate_of w e held)
  unfolding invalidate_of
  invalidate_row e held =
      let P : Answered → Type 0 = RowUntold (commands.Invalidate e) in
      each_some P (cache_of w e.cache.0) _ w _ F (λ c there.
      each_some P c.segment _ w _ F (λ seg named.
      each_unless P (passes_end c e.first.0 e.pages) _ w _ F (λ inside.
      each_unless P _ _ w _ F (λ unlocked.
      let part : List Page = held_part held e.first.0 e.pages in
      let blanks : List Page = map no_bytes part in
      let there' = blank_there w e.cache.0 c there in
      let ends : e.first.0 + e.pages ≤ length (blank_cache c).pages = omega (arith, not_past _ _ inside, length-map c.pages no_bytes) in
      let many : length blanks ≡ e.pages = length-map part no_bytes ∙ length-map-range_with_len _ e.first.0 e.pages in
      let next : Machine = put_cache w e.cache.0 (put_pages e.first.0 part c) in
      let seen : Machine = put_cache (blank w) e.cache.0 (put_pages e.first.0 blanks (blank_cache c)) in
      let same : seen ≡ blank next = ap (put_cache (blank w) e.cache.0) (blank_pages e.first.0 part c) ∙ blank_put w e.cache.0 (put_pages e.first.0 part c) in
      let all : IsFollowed seen (invalidate (nodes_in e (cache_of seen e.cache.0)) f) = subst (λ (o : Option Cache). IsFollowed seen (invalidate (nodes_in e o) f)) (sym (invalidated_there (blank w) f F e (blank_cache c) blanks there' ends many)) (invalidated_followed (blank w) f F e (blank_cache c) blanks there' ends many) in
      subst (λ (n : Machine). IsFollowed n (invalidate (nodes_in e (cache_of n e.cache.0)) f)) same all))))

  destroy_row : (cache : CacheId) → RowUntold (commands.Destroy cache) (destroy_of w cache.0)
  unfolding destroy_of
  destroy_row cache =
      let P : Answered → Type 0 = RowUntold (commands.Destroy cache) in
      each_some P (cache_of w cache.0) _ w _ F (λ c there.
      each_unless P _ _ w _ F (λ free.
      let there' = blank_there w cache.0 c there in
      subst (λ (n : ℕ). IsFollowed (blank (record w { caches = set w.caches (cache.0 - 1) None })) (destroy (is_named (blank w) cache.0) (page_names cache 0 n) f)) (sym (ap pages_in there'))
      (subst (λ (m : Machine). IsFollowed m (destroy (is_named (blank w) cache.0) (page_names cache 0 (length (blank_cache c).pages)) f)) (blank_gone w cache.0) (destroyed_followed (blank w) f (is_named (blank w) cache.0) cache (blank_cache c) there' F))))

  -- a copy or move that isn't refused
  allowed_blank : (s : Span) (source destination : Cache) → IsAllowed w s source destination → IsAllowed (blank w) s (blank_cache source) (blank_cache destination)
  allowed_blank s source destination A = record {
    from = blank_there w s.from.0 source A.from;
    to = blank_there w s.to.0 destination A.to;
    source_ends = omega (arith, A.source_ends, length-map source.pages no_bytes);
    destination_ends = omega (arith, A.destination_ends, length-map destination.pages no_bytes);
    apart = A.apart;
  }

  copied_blank : (s : Span) (source destination : Cache)
      → put_cache (blank w) s.to.0 (put_pages s.to_page.0 (take s.pages (drop s.from_page.0 (blank_cache source).pages)) (blank_cache destination))
      ≡ blank (put_cache w s.to.0 (put_pages s.to_page.0 (take s.pages (drop s.from_page.0 source.pages)) destination))
  copied_blank s source destination =
      ap (λ (ps : List Page). put_cache (blank w) s.to.0 (put_pages s.to_page.0 ps (blank_cache destination))) (blank_part s.from_page.0 s.pages source)
      ∙ ap (put_cache (blank w) s.to.0) (blank_pages s.to_page.0 (take s.pages (drop s.from_page.0 source.pages)) destination)
      ∙ blank_put w s.to.0 (put_pages s.to_page.0 (take s.pages (drop s.from_page.0 source.pages)) destination)

  copy_row : (s : Span) (h : Segments) → RowUntold (commands.Copy s) (copy_of w s h)
  unfolding copy_of
  copy_row s h =
      let P : Answered → Type 0 = RowUntold (commands.Copy s) in
      each_some P (cache_of w s.from.0) _ w _ F (λ source from.
      each_some P (cache_of w s.to.0) _ w _ F (λ destination to.
      each_unless P (passes_end source s.from_page.0 s.pages || passes_end destination s.to_page.0 s.pages) _ w _ F (λ inside.
      let ends : (s.from_page.0 + s.pages ≤ length source.pages) × (s.to_page.0 + s.pages ≤ length destination.pages) = neither _ _ _ _ inside in
      each_unless P _ _ w _ F (λ apart.
      each_unless P _ _ w _ F (λ unlocked.
      each_unless P _ _ w _ F (λ allowed.
      let A : IsAllowed w s source destination = record { from = from; to = to; source_ends = ends.0; destination_ends = ends.1; apart = apart } in
      subst (λ (m : Machine). IsFollowed m (copy (is_named (blank w) s.to.0) (span_pairs s) f)) (copied_blank s source destination)
      (copied_followed (blank w) f s (blank_cache source) (blank_cache destination) F (allowed_blank s source destination A) (is_named (blank w) s.to.0))))))))

  move_row : (s : Span) (h : Segments) → 1 ≤ s.pages → RowUntold (commands.Move s) (move_of w s h)
  unfolding move_of
  move_row s h some =
      let P : Answered → Type 0 = RowUntold (commands.Move s) in
      each_some P (cache_of w s.from.0) _ w _ F (λ source from.
      each_some P (cache_of w s.to.0) _ w _ F (λ destination to.
      each_unless P (passes_end source s.from_page.0 s.pages || passes_end destination s.to_page.0 s.pages) _ w _ F (λ inside.
      let ends : (s.from_page.0 + s.pages ≤ length source.pages) × (s.to_page.0 + s.pages ≤ length destination.pages) = neither _ _ _ _ inside in
      each_unless P _ _ w _ F (λ temporary.
      each_unless P _ _ w _ F (λ apart.
      each_unless P _ _ w _ F (λ unlocked.
      each_unless P _ _ w _ F (λ allowed.
      let A : IsAllowed w s source destination = record { from = from; to = to; source_ends = ends.0; destination_ends = ends.1; apart = apart } in
      let B = allowed_blank s source destination A in
      let part : List Page = take s.pages (drop s.from_page.0 source.pages) in
      let d : Cache = put_pages s.to_page.0 part destination in
      let w1 : Machine = put_cache w s.to.0 d in
      let left : (c : Cache) × (cache_of w1 s.from.0 ≡ Some c) = elim (numbered-set w.caches s.to.0 s.from.0 destination d source to from) [ inl e ↦ (source, e) | inr e ↦ (d, e.1) ] in
      let zeros : List Page = replicate s.pages (zero_page w.page_bytes) in
      let next : Machine = put_cache w1 s.from.0 (put_pages s.from_page.0 zeros left.0) in
      let seen = moved_machine (blank w) f s (blank_cache source) (blank_cache destination) F B [] in
      let lb = source_left (blank w) f s (blank_cache source) (blank_cache destination) F B in
      let same : lb.0 ≡ blank_cache left.0 = same_some lb.0 (blank_cache left.0) (sym lb.1 ∙ ap (λ (m : Machine). cache_of m s.from.0) (copied_blank s source destination) ∙ blank_there w1 s.from.0 left.0 left.1) in
      let is : seen ≡ blank next =
      ap (λ (c : Cache). put_cache (put_cache (blank w) s.to.0 (put_pages s.to_page.0 (take s.pages (drop s.from_page.0 (blank_cache source).pages)) (blank_cache destination))) s.from.0 (put_pages s.from_page.0 (replicate s.pages []) c)) same
      ∙ ap (λ (m : Machine). put_cache m s.from.0 (put_pages s.from_page.0 (replicate s.pages []) (blank_cache left.0))) (copied_blank s source destination)
      ∙ ap (λ (ps : List Page). put_cache (blank w1) s.from.0 (put_pages s.from_page.0 ps (blank_cache left.0))) (blank_replicate s.pages (zero_page w.page_bytes))
      ∙ ap (put_cache (blank w1) s.from.0) (blank_pages s.from_page.0 zeros left.0)
      ∙ blank_put w1 s.from.0 (put_pages s.from_page.0 zeros left.0) in
      let none : page_in seen s.from.0 s.from_page.0 ≡ Some [] = zero_left (blank w) f s (blank_cache source) (blank_cache destination) F B [] s.from_page.0 (omega arith) (omega (arith, some)) in
      let all : IsFollowed seen (followed f (blank w) (commands.Move s) seen) = moved_followed (blank w) f s (blank_cache source) (blank_cache destination) F B [] (is_named (blank w) s.to.0) (told (unwrap_or (page_in seen s.from.0 s.from_page.0) [])) (ap (λ (o : Option Page). told (unwrap_or o [])) none) in
      let row : option_map_or (λ c. put_cache w1 s.from.0 (put_pages s.from_page.0 zeros c)) (cache_of w1 s.from.0) w1 ≡ next = ap (λ (o : Option Cache). option_map_or (λ c. put_cache w1 s.from.0 (put_pages s.from_page.0 zeros c)) o w1) left.1 in
      subst (λ (m : Machine). IsFollowed m (followed f (blank w) (commands.Move s) m)) (is ∙ ap blank (sym row)) all)))))))

  exit_row : (actor : ActorId) → RowUntold (commands.ExitActor actor) (exit_actor_of w actor.0)
  unfolding exit_actor_of
  exit_row actor = each_some (RowUntold (commands.ExitActor actor)) _ _ w _ F (λ regions here. stays (blank w) f F _ refl)

  split_row : (region : RegionId) (pages : ℕ) → RowUntold (commands.Split region pages) (split_of w region.0 pages)
  unfolding split_of
  split_row region pages =
      let P : Answered → Type 0 = RowUntold (commands.Split region pages) in
      each_some P _ _ w _ F (λ r there.
      each_unless P _ _ w _ F (λ fewer.
      each_unless P _ _ w _ F (λ room. stays (blank w) f F _ refl)))

  protect_row : (region : RegionId) (prot : Prot) → RowUntold (commands.Protect region prot) (protect_of w region.0 prot)
  unfolding protect_of
  protect_row region prot = each_some (RowUntold (commands.Protect region prot)) _ _ w _ F (λ r there. stays (blank w) f F _ refl)

  lock_row : IsLaid (blank w) → (region : RegionId) → RowUntold (commands.Lock region) (lock_of w region.0)
  unfolding lock_of
  lock_row laid region =
      let P : Answered → Type 0 = RowUntold (commands.Lock region) in
      each_some P (region_with region.0 w.actors) _ w _ F (λ r there.
      each_unless P _ _ w _ F (λ free.
      each_unless P _ _ w _ F (λ few.
      stays (blank w) (lock (pages_locked (blank w) region.0) f) (region_locked (blank w) f F laid region.0 r there) (blank (change_region w region.0 (with_lock true))) refl)))

  unlock_row : (region : RegionId) → RowUntold (commands.Unlock region) (unlock_of w region.0)
  unfolding unlock_of
  unlock_row region =
      let P : Answered → Type 0 = RowUntold (commands.Unlock region) in
      each_some P _ _ w _ F (λ r there. each_unless P _ _ w _ F (λ locked. stays (blank w) f F _ refl))

  status_row : (region : RegionId) → RowUntold (commands.Status region) (status_of w region.0)
  unfolding status_of
  status_row region = each_some (RowUntold (commands.Status region)) _ _ w _ F (λ status there. F)

  find_row : (actor : ActorId) (address : ℕ) → RowUntold (commands.Find actor address) (find_of w actor.0 address)
  unfolding find_of
  find_row actor address =
      let P : Answered → Type 0 = RowUntold (commands.Find actor address) in
      each_some P _ _ w _ F (λ regions here. each_some P _ _ w _ F (λ r holds. F))

  map_row : (actor : ActorId) (p : Mapping) → RowUntold (commands.Map actor p) (map_of w actor.0 p)
  unfolding map_of
  map_row actor p =
      let P : Answered → Type 0 = RowUntold (commands.Map actor p) in
      each_some P (actor_of w actor.0) _ w _ F (λ regions here.
      each_some P (cache_of w p.extent.cache.0) _ w _ F (λ cache there.
      each_unless P _ _ w _ F (λ aligned.
      each_unless P _ _ w _ F (λ below.
      each_unless P _ _ w _ F (λ inside.
      each_unless P _ _ w _ F (λ apart.
      each_unless P _ _ w _ F (λ fewer. stays (blank w) f F _ refl)))))))

  unmap_row : (region : RegionId) → RowUntold (commands.Unmap region) (unmap_of w region.0)
  unfolding unmap_of
  unmap_row region =
      let P : Answered → Type 0 = RowUntold (commands.Unmap region) in
      each_some P _ _ w _ F (λ r there. each_unless P _ _ w _ F (λ unlocked. stays (blank w) f F _ refl))

  load_row : (actor : ActorId) (address length : ℕ) → RowUntold (commands.Load actor address length) (load_of w actor.0 address length)
  unfolding load_of
  load_row actor address length = each_ok (RowUntold (commands.Load actor address length)) _ w _ (λ r. F) (λ at e. F)

  store_row : (actor : ActorId) (address : ℕ) (bytes : List ℕ) (h : Segments) → HasMappedPages w → RowUntold (commands.Store actor address bytes) (store_of w actor.0 address bytes h)
  unfolding store_of
  store_row actor address bytes h mapped =
      let P : Answered → Type 0 = RowUntold (commands.Store actor address bytes) in
      each_ok P (place w actor.0 address (length bytes)) w _ (λ r. F) (λ at placed.
      each_unless P _ _ w _ F (λ writes.
      each_unless P _ _ w _ F (λ allowed.
      let there = some_page w at.region.cache at.page (subst (λ (o : Result Place Refusal). IfOk o (λ (at : Place). IsSome (page_in w at.region.cache at.page))) placed (mapped actor.0 address (length bytes))) in
      let c : Cache = there.0 in
      let new : Page = overwrite at.byte bytes (page_at w at) in
      let next : write_at w at bytes ≡ put_cache w at.region.cache (put_page at.page new c) = ap (λ (o : Option Cache). option_map_or (λ c. put_cache w at.region.cache (put_page at.page new c)) o w) there.1 in
      let is : blank (write_at w at bytes) ≡ blank w = ap blank next ∙ blank_written w at.region.cache at.page c there.2 new there.1 there.3 in
      let all = untold_write (blank w) f at.region.cache at.page (overwrite at.byte bytes) (blank_page w at.region.cache at.page c there.2 there.1 there.3) F in
      subst (λ (m : Machine). IsFollowed m (written_at f (place w actor.0 address (length bytes)) bytes)) (sym is)
      (subst (λ (o : Result Place Refusal). IsFollowed (blank w) (written_at f o bytes)) (sym placed) all))))

  chain_row : (cache : CacheId) (page : PageNo) → RowUntold (commands.Chain cache page) (chain_answer w f cache page.0)
  unfolding chain_answer
  chain_row cache page =
      let P : Answered → Type 0 = RowUntold (commands.Chain cache page) in
      each_some P _ _ w _ F (λ c there. each_unless P _ _ w _ F (λ within. F))

  module _ (laid : IsLaid (blank w)) (mapped : HasMappedPages w) where
    rows : (c : Command) (h : Segments) → IsWellFormed c → RowUntold c (answer_of w f c h)
    rows commands.MakeActor h some = actor_row
    rows (commands.ExitActor actor) h some = exit_row actor
    rows (commands.MakeTemp pages) h some = temp_row pages
    rows (commands.OpenSegment seg) h some = open_row seg (get h.pages seg.0)
    rows (commands.Destroy cache) h some = destroy_row cache
    rows (commands.Copy span) h some = copy_row span h
    rows (commands.Move span) h some = move_row span h some
    rows (commands.Map actor mapping) h some = map_row actor mapping
    rows (commands.Split region pages) h some = split_row region pages
    rows (commands.Protect region prot) h some = protect_row region prot
    rows (commands.Lock region) h some = lock_row laid region
    rows (commands.Unlock region) h some = unlock_row region
    rows (commands.Unmap region) h some = unmap_row region
    rows (commands.Status region) h some = status_row region
    rows (commands.Find actor address) h some = find_row actor address
    rows (commands.Load actor address length) h some = load_row actor address length
    rows (commands.Store actor address piece) h some = store_row actor address piece h mapped
    rows (commands.Sync extent) h some = sync_row extent
    rows (commands.Flush extent) h some = flush_row extent
    rows (commands.Invalidate extent) h some = invalidate_row extent (held_for w h extent.cache.0)
    rows (commands.PageOut count) h some = F
    rows (commands.Chain cache page) h some = chain_row cache page
    rows commands.Stat h some = F

    page_faulted : (c : Command) (h : Segments) (p : PageNo) (rises : MapperCounts) → MayFault w (Some f) c h (faults.Page p) rises → IsFollowed (blank w) (lock (pages_passed (blank w) c p.0) f)
    page_faulted (commands.Lock region) h p rises may = passed_locked (blank w) f F laid region.0 p.0 may
    page_faulted c h p rises may = F

    faulted : (c : Command) (h : Segments) (at : FaultAt) (rises : MapperCounts) → MayFault w (Some f) c h at rises → IsFollowed (blank w) (forest_after f (blank w) c (Err (troubles.Mapper at)) (blank w))
    faulted c h faults.Opening rises may = F
    faulted c h (faults.Access p) rises may = F
    faulted c h (faults.Save done) rises may = saves_followed (blank w) f F done (pages_saved (blank w) c)
    faulted c h (faults.Page p) rises may = page_faulted c h p rises may
    faulted c h faults.Victim rises may = F

    followed_by : (next : Machine) (c : Command) (h : Segments) (a : Answer) (rises : MapperCounts) → IsWellFormed c → Outcome w (Some f) c h a next rises → IsFollowed (blank next) (forest_after f (blank w) c a (blank next))
    followed_by next c h (Ok r) rises some o = subst (RowUntold c) o (rows c h some)
    followed_by next c h (Err (troubles.Refused r)) rises some o = subst (RowUntold c) o (rows c h some)
    followed_by next c h (Err (troubles.Mapper at)) rises some o = subst (λ (n : Machine). IsFollowed (blank n) (forest_after f (blank w) c (Err (troubles.Mapper at)) (blank n))) (sym o.0) (faulted c h at rises o.2)
    followed_by next c h (Err troubles.Memory) rises some o = subst (λ (n : Machine). IsFollowed (blank n) f) (sym o.0) F

-- Any answer

alike_after : (f : PageForest) (m : Machine) (c : Command) (n : Machine) (a b : Answer) → IsAlike a b → forest_after f m c a n ≡ forest_after f m c b n
alike_after f m c n (Ok (replies.Bytes x)) (Ok (replies.Bytes y)) e = refl
alike_after f m c n a b e = ap (λ (z : Answer). forest_after f m c z n) e

lies_blank : (w : Machine) (r : Region) → LiesIn w.caches r → LiesIn (blank w).caches r
lies_blank w r p = record { cache = blank_cache p.cache; there = blank_there w r.cache p.cache p.there; within = omega (arith, p.within, length-map p.cache.pages no_bytes) }

lies_back : (w : Machine) (r : Region) → LiesIn (blank w).caches r → LiesIn w.caches r
lies_back w r p =
    let x = from_some blank_cache (numbered w.caches r.cache) p.cache (sym (numbered-map blank_cache w.caches r.cache) ∙ p.there) in
    record { cache = x.0; there = x.1; within = omega (arith, p.within, ap (λ (c : Cache). length c.pages) x.2, length-map x.0.pages no_bytes) }

pub untold_answers_are_followed : UntoldAnswersAreFollowed
untold_answers_are_followed m next f c a rises laid well F o =
    let w = o.whole in
    let n = o.whole_next in
    let seen : IsFollowed (blank w) f = subst (λ (k : Machine). IsFollowed k f) o.is F in
    let old : IsLaid (blank w) = subst IsLaid o.is laid in
    let with_bytes : IsLaid w = record { some = old.some; lie = lie_still (blank w).caches w.caches (lies_back w) w.actors old.lie } in
    let all = followed_by w f seen old (laid_machines_are_mapped w with_bytes) n c o.segments o.whole_answer rises well o.outcome in
    let same : IsFollowed (blank n) (forest_after f (blank w) c a (blank n)) = subst (IsFollowed (blank n)) (alike_after f (blank w) c (blank n) o.whole_answer a o.alike) all in
    let left = machines_stay_laid w n f c o.segments o.whole_answer rises with_bytes o.outcome in
    let laid_next : IsLaid (blank n) = record { some = left.some; lie = lie_still n.caches (blank n).caches (lies_blank n) n.actors left.lie } in (
      subst (λ (k : Machine). IsFollowed next (forest_after f k c a next)) (sym o.is) (subst (λ (k : Machine). IsFollowed k (forest_after f (blank w) c a k)) (sym o.is_next) same),
      subst IsLaid (sym o.is_next) laid_next,
    )
