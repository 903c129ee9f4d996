-- Segments back the caches of a machine after each answer.
use Rattle.std.proofs.Common.{◌≡◌, ℕ, ◌+◌, ◌-◌, ◌<◌, ◌≤◌, true, false, List, [], length, set, take, drop, replicate, Option, Some, None, refl, sym, ap, subst, ◌∙◌, arith, inl, inr}
use Rattle.std.specs.Prelude.{◌||◌, is_some, option_and_then, slice_get, unwrap_or, Ok, Err}
use Rattle.std.specs.FinMap.{get}
use Rattle.std.specs.List.{list_any, range_with_len}
use Rattle.std.specs.Option.{option_map_or}
use Rattle.std.proofs.lemmas.Bool.{cases_eq, cases_lt}
use Rattle.std.proofs.lemmas.List.{length-take-le, length-drop, length-set}
use Rattle.std.proofs.lemmas.List.FromFn.{length-map-range_with_len, get_or-map-range_with_len}
use Rattle.std.proofs.lemmas.Option.{slice_get-get_or, unwrap_or-slice_get}
use Rattle.vm_ids.specs.Counting.{MapperCounts}
use Rattle.vm_ids.specs.Denying.{denies}
use Rattle.vm_ids.specs.Held.{Segments}
use Rattle.vm_ids.specs.declared.command.Command.{Command}
use Rattle.vm_ids.specs.declared.command.Command.TheVariants as commands
use Rattle.vm_ids.specs.declared.command.Extent.{Extent}
use Rattle.vm_ids.specs.declared.command.Mapping.{Mapping}
use Rattle.vm_ids.specs.declared.command.Prot.{Prot}
use Rattle.vm_ids.specs.declared.command.Span.{Span}
use Rattle.vm_ids.specs.declared.numbers.CacheId.{CacheId}
use Rattle.vm_ids.specs.declared.reply.Trouble.TheVariants as troubles
use Rattle.vm_model.specs.Machine.{Machine, Cache, Page, cache_of, cache_named, zero_page}
use Rattle.vm_model.specs.Place.{place}
use Rattle.vm_model.specs.PageForest.{PageForest, forest_shown}
use Rattle.vm_model.specs.Outcome.{Outcome}
use Rattle.vm_model.specs.Answering.{Answer, Answered, answer_of, chain_answer, copy_of, destroy_of, exit_actor_of, find_of, flush_of, held_for, held_part, invalidate_of, is_denied_page, load_of, lock_of, make_actor_of, make_temp_of, map_of, move_of, open_of, opened, overwrite, page_at, passes_end, protect_of, put_cache, put_page, put_pages, split_of, status_of, store_of, sync_of, temporary, unlock_of, unmap_of}
use Rattle.vm_model.proofs.Parts.Lists.{get_set_other, length-overwrite, numbered-set}
use Rattle.vm_model.proofs.Parts.ListParts.{overwrite_before, overwrite_behind, overwrite_in}
use Rattle.vm_model.proofs.Outcomes.Rows.{each_unless, each_some, each_ok}
use Rattle.gmi_calls.specs.Backing.{AreBacked, Backs}
use Rattle.vm_model.proofs.Outcomes.Lying.{neither, not_past}
use Rattle.gmi_calls.proofs.BackedCaches.{backs_other, denied_named, free_segment, gone, more, none_in, part_backs, put}

-- Each row of the table

module _ (m : Machine) (s : Segments) (B : AreBacked m.caches s) where
  abbrev RowBacked : Answered → Type 0
  RowBacked a = AreBacked a.next.caches s

  actor_row : RowBacked (make_actor_of m)
  unfolding make_actor_of
  actor_row = each_unless RowBacked _ _ m _ B (λ e. B)

  temp_row : (pages : ℕ) → RowBacked (make_temp_of m pages)
  unfolding make_temp_of
  temp_row pages = each_unless RowBacked _ _ m _ B (λ e. more m.caches s B (temporary m.page_bytes pages) (λ k seg y there p q. cc q) (λ seg q. absurd (cc q)))

  open_row : (seg : ℕ) → RowBacked (open_of m seg (get s.pages seg))
  unfolding open_of
  open_row seg =
      each_unless RowBacked (is_some (cache_named m.caches seg)) _ m _ B (λ free.
      each_unless RowBacked _ _ m _ B (λ fewer.
      each_some RowBacked (get s.pages seg) _ m _ B (λ pages holds.
      each_unless RowBacked _ _ m _ B (λ room.
      more m.caches s B (opened seg pages)
      (λ k x y there p q. let same : seg ≡ x = cc q in free_segment m seg free k y there (p ∙ ap Some (sym same)))
      (λ x q. let same : seg ≡ x = cc q in subst (λ (n : ℕ). Backs s n (opened seg pages)) same (record { pages = pages; there = holds; many = refl; denied = λ page e. refl }))))))

  destroy_row : (n : ℕ) → RowBacked (destroy_of m n)
  unfolding destroy_of
  destroy_row n =
      each_some RowBacked (cache_of m n) _ m _ B (λ c there.
      each_unless RowBacked _ _ m _ B (λ free. gone m.caches s B n c there))

  -- pages of a copy or move are put in the destination
  span_put : (p : Span) (source destination : Cache) → cache_of m p.to.0 ≡ Some destination → p.from_page.0 + p.pages ≤ length source.pages → p.to_page.0 + p.pages ≤ length destination.pages
      → list_any (is_denied_page m s p.to.0) (range_with_len p.to_page.0 p.pages) ≡ false
      → AreBacked (set m.caches (p.to.0 - 1) (Some (put_pages p.to_page.0 (take p.pages (drop p.from_page.0 source.pages)) destination))) s
  span_put p source destination to from_ends to_ends allowed =
      let part : List Page = take p.pages (drop p.from_page.0 source.pages) in
      let many : length part ≡ p.pages = length-take-le p.pages (drop p.from_page.0 source.pages) (omega (arith, from_ends, length-drop p.from_page.0 source.pages)) in
      put m.caches s B p.to.0 destination (put_pages p.to_page.0 part destination) to refl
      (λ seg named. part_backs s seg p.to_page.0 part destination (omega (arith, to_ends, many))
      (λ page from below. sym (denied_named m s p.to.0 seg page destination to named)
      ∙ none_in (is_denied_page m s p.to.0) p.to_page.0 p.pages page allowed from (omega (arith, below, many))))

  copy_row : (p : Span) → RowBacked (copy_of m p s)
  unfolding copy_of
  copy_row p =
      each_some RowBacked (cache_of m p.from.0) _ m _ B (λ source from.
      each_some RowBacked (cache_of m p.to.0) _ m _ B (λ destination to.
      each_unless RowBacked (passes_end source p.from_page.0 p.pages || passes_end destination p.to_page.0 p.pages) _ m _ B (λ inside.
      let ends : (p.from_page.0 + p.pages ≤ length source.pages) × (p.to_page.0 + p.pages ≤ length destination.pages) = neither _ _ _ _ inside in
      each_unless RowBacked _ _ m _ B (λ apart.
      each_unless RowBacked _ _ m _ B (λ unlocked.
      each_unless RowBacked (list_any (is_denied_page m s p.to.0) (range_with_len p.to_page.0 p.pages)) _ m _ B (λ allowed.
      span_put p source destination to ends.0 ends.1 allowed))))))

  unnamed : (o : Option ℕ) → is_some o ≡ false → o ≡ None
  unnamed None e = refl
  unnamed (Some x) e = absurd (cc e)

  move_row : (p : Span) → RowBacked (move_of m p s)
  unfolding move_of
  move_row p =
      each_some RowBacked (cache_of m p.from.0) _ m _ B (λ source from.
      each_some RowBacked (cache_of m p.to.0) _ m _ B (λ destination to.
      each_unless RowBacked (passes_end source p.from_page.0 p.pages || passes_end destination p.to_page.0 p.pages) _ m _ B (λ inside.
      let ends : (p.from_page.0 + p.pages ≤ length source.pages) × (p.to_page.0 + p.pages ≤ length destination.pages) = neither _ _ _ _ inside in
      each_unless RowBacked (is_some source.segment) _ m _ B (λ temporary.
      each_unless RowBacked _ _ m _ B (λ apart.
      each_unless RowBacked _ _ m _ B (λ unlocked.
      each_unless RowBacked (list_any (is_denied_page m s p.to.0) (range_with_len p.to_page.0 p.pages)) _ m _ B (λ allowed.
      let d : Cache = put_pages p.to_page.0 (take p.pages (drop p.from_page.0 source.pages)) destination in
      let next : Machine = put_cache m p.to.0 d in
      let zeros : List Page = replicate p.pages (zero_page m.page_bytes) in
      let left : (c : Cache) × (cache_of next p.from.0 ≡ Some c) × (c.segment ≡ None) = elim (numbered-set m.caches p.to.0 p.from.0 destination d source to from) [
        | inl e ↦ (source, e, unnamed source.segment temporary)
        | inr e ↦ (d, e.1, ap (λ (c : Cache). c.segment) (sym e.0) ∙ unnamed source.segment temporary)
      ] in
      subst (λ (x : Machine). AreBacked x.caches s) (sym (ap (λ (o : Option Cache). option_map_or (λ c. put_cache next p.from.0 (put_pages p.from_page.0 zeros c)) o next) left.1))
      (put next.caches s (span_put p source destination to ends.0 ends.1 allowed) p.from.0 left.0 (put_pages p.from_page.0 zeros left.0) left.1 refl
      (λ seg named. absurd (let f : None ≡ Some seg = sym left.2 ∙ named in cc f))))))))))

  map_row : (actor : ℕ) (p : Mapping) → RowBacked (map_of m actor p)
  unfolding map_of
  map_row actor p =
      each_some RowBacked _ _ m _ B (λ regions here.
      each_some RowBacked _ _ m _ B (λ cache there.
      each_unless RowBacked _ _ m _ B (λ aligned.
      each_unless RowBacked _ _ m _ B (λ below.
      each_unless RowBacked _ _ m _ B (λ inside.
      each_unless RowBacked _ _ m _ B (λ apart.
      each_unless RowBacked _ _ m _ B (λ fewer. B)))))))

  -- where the caches stay
  exit_row : (actor : ℕ) → RowBacked (exit_actor_of m actor)
  unfolding exit_actor_of
  exit_row actor = each_some RowBacked _ _ m _ B (λ regions here. B)

  split_row : (n pages : ℕ) → RowBacked (split_of m n pages)
  unfolding split_of
  split_row n pages = each_some RowBacked _ _ m _ B (λ r there. each_unless RowBacked _ _ m _ B (λ inside. each_unless RowBacked _ _ m _ B (λ fewer. B)))

  protect_row : (n : ℕ) (prot : Prot) → RowBacked (protect_of m n prot)
  unfolding protect_of
  protect_row n prot = each_some RowBacked _ _ m _ B (λ r there. B)

  lock_row : (n : ℕ) → RowBacked (lock_of m n)
  unfolding lock_of
  lock_row n =
      each_some RowBacked _ _ m _ B (λ r there.
      each_unless RowBacked _ _ m _ B (λ unlocked.
      each_unless RowBacked _ _ m _ B (λ few. B)))

  unlock_row : (n : ℕ) → RowBacked (unlock_of m n)
  unfolding unlock_of
  unlock_row n =
      each_some RowBacked _ _ m _ B (λ r there.
      each_unless RowBacked _ _ m _ B (λ locked. B))

  status_row : (n : ℕ) → RowBacked (status_of m n)
  unfolding status_of
  status_row n = each_some RowBacked _ _ m _ B (λ told there. B)

  find_row : (actor address : ℕ) → RowBacked (find_of m actor address)
  unfolding find_of
  find_row actor address = each_some RowBacked _ _ m _ B (λ regions here. each_some RowBacked _ _ m _ B (λ r there. B))

  unmap_row : (n : ℕ) → RowBacked (unmap_of m n)
  unfolding unmap_of
  unmap_row n = each_some RowBacked _ _ m _ B (λ r there. each_unless RowBacked _ _ m _ B (λ unlocked. B))

  load_row : (actor address length : ℕ) → RowBacked (load_of m actor address length)
  unfolding load_of
  load_row actor address length = each_ok RowBacked _ m _ (λ r. B) (λ at e. B)

  -- one page of a cache is replaced, which isn't denied
  page_put : (n page : ℕ) (new : Cache → Page) → is_denied_page m s n page ≡ false → (o : Option Cache) → cache_of m n ≡ o → AreBacked (option_map_or (λ c. put_cache m n (put_page page (new c) c)) o m).caches s
  page_put n page new allowed None there = B
  page_put n page new allowed (Some c) there = put m.caches s B n c (put_page page (new c) c) there refl (λ seg named. backs_other s seg c (put_page page (new c) c) (length-set c.pages page (new c)) (kept seg named))
    where
      kept : (seg : ℕ) → c.segment ≡ Some seg → (q : ℕ) → denies s.denied seg q ≡ true → slice_get (set c.pages page (new c)) q ≡ slice_get c.pages q
      kept seg named q e = elim (cases_eq q page) [
        | inl same ↦ absurd (let f : true ≡ false = sym e ∙ ap (denies s.denied seg) same ∙ sym (denied_named m s n seg page c there named) ∙ allowed in cc f)
        | inr other ↦ get_set_other c.pages page q (new c) other
      ]

  store_row : (actor address : ℕ) (bytes : List ℕ) → RowBacked (store_of m actor address bytes s)
  unfolding store_of
  store_row actor address bytes =
      each_ok RowBacked (place m actor address (length bytes)) m _ (λ r. B) (λ at found.
      each_unless RowBacked _ _ m _ B (λ writes.
      each_unless RowBacked (is_denied_page m s at.region.cache at.page) _ m _ B (λ allowed.
      page_put at.region.cache at.page (λ c. overwrite at.byte bytes (page_at m at)) allowed (cache_of m at.region.cache) refl)))

  sync_row : (e : Extent) → RowBacked (sync_of m e)
  unfolding sync_of
  sync_row e =
      each_some RowBacked _ _ m _ B (λ c there.
      each_some RowBacked _ _ m _ B (λ seg named.
      each_unless RowBacked _ _ m _ B (λ inside. B)))

  flush_row : (e : Extent) → RowBacked (flush_of m e)
  unfolding flush_of
  flush_row e =
      each_some RowBacked _ _ m _ B (λ c there.
      each_some RowBacked _ _ m _ B (λ seg named.
      each_unless RowBacked _ _ m _ B (λ inside.
      each_unless RowBacked _ _ m _ B (λ unlocked. B))))

  chain_row : (f : PageForest) (cache : CacheId) (page : ℕ) → RowBacked (chain_answer m f cache page)
  unfolding chain_answer
  chain_row f cache page = each_some RowBacked _ _ m _ B (λ c there. each_unless RowBacked _ _ m _ B (λ within. B))

-- what the segment of a cache holds
pub held_is : (m : Machine) (s : Segments) (n seg : ℕ) (c : Cache) (pages : List Page) → cache_of m n ≡ Some c → c.segment ≡ Some seg → get s.pages seg ≡ Some pages → held_for m s n ≡ Some pages
held_is m s n seg c pages there named holds =
    ap (λ (o : Option Cache). option_and_then (get s.pages) (option_and_then (λ (c : Cache). c.segment) o)) there
    ∙ ap (λ (o : Option ℕ). option_and_then (get s.pages) o) named
    ∙ holds

pub part_page : (held : Option (List Page)) (pages : List Page) (first n page : ℕ) → held ≡ Some pages → first ≤ page → page < first + n → page < length pages → slice_get (held_part held first n) (page - first) ≡ slice_get pages page
part_page held pages first n page e from below there =
    let many : length (held_part held first n) ≡ n = length-map-range_with_len _ first n in
    let of : ℕ → Page = λ q. unwrap_or (option_and_then (λ (ps : List Page). slice_get ps q) held) [] in
    slice_get-get_or (held_part held first n) (page - first) [] (omega (arith, from, below, many))
    ∙ ap Some (get_or-map-range_with_len of first n (page - first) page [] (omega (arith, from, below)) (omega (arith, from)))
    ∙ ap Some (ap (λ (o : Option (List Page)). unwrap_or (option_and_then (λ (ps : List Page). slice_get ps page) o) []) e ∙ unwrap_or-slice_get pages page [])
    ∙ sym (slice_get-get_or pages page [] there)

module _ (m : Machine) (s : Segments) (B : AreBacked m.caches s) where
  -- the pages of a range become those that the segment holds
  taken_backs : (e : Extent) (seg : ℕ) (c : Cache) → cache_of m e.cache.0 ≡ Some c → c.segment ≡ Some seg → e.first.0 + e.pages ≤ length c.pages → Backs s seg c → Backs s seg (put_pages e.first.0 (held_part (held_for m s e.cache.0) e.first.0 e.pages) c)
  taken_backs e seg c there named ends K = backs_other s seg c (put_pages e.first.0 part c) (length-overwrite e.first.0 part c.pages (omega (arith, ends, many))) same K
    where
      held : Option (List Page)
      held = held_for m s e.cache.0

      part : List Page
      part = held_part held e.first.0 e.pages

      many : length part ≡ e.pages
      many = length-map-range_with_len _ e.first.0 e.pages

      same : (page : ℕ) → denies s.denied seg page ≡ true → slice_get (overwrite e.first.0 part c.pages) page ≡ slice_get c.pages page
      same page denied = elim (cases_lt page e.first.0) [
        | inl before ↦ overwrite_before e.first.0 part c.pages page (omega (arith, ends)) before
        | inr from ↦ elim (cases_lt page (e.first.0 + e.pages)) [
          | inl below ↦
              overwrite_in e.first.0 part c.pages (page - e.first.0) page (omega (arith, ends)) (omega (arith, from, below, many)) (omega (arith, from))
              ∙ part_page held K.pages e.first.0 e.pages page (held_is m s e.cache.0 seg c K.pages there named K.there) from below (omega (arith, below, ends, K.many))
              ∙ K.denied page denied
          | inr past ↦ overwrite_behind e.first.0 part c.pages page (omega (arith, ends)) (omega (arith, past, many))
        ]
      ]

  invalidate_row : (e : Extent) → RowBacked m s B (invalidate_of m e (held_for m s e.cache.0))
  unfolding invalidate_of
  invalidate_row e =
      let Row : Answered → Type 0 = RowBacked m s B in
      each_some Row (cache_of m e.cache.0) _ m _ B (λ c there.
      each_some Row c.segment _ m _ B (λ seg named.
      each_unless Row (passes_end c e.first.0 e.pages) _ m _ B (λ inside.
      each_unless Row _ _ m _ B (λ unlocked.
      put m.caches s B e.cache.0 c (put_pages e.first.0 (held_part (held_for m s e.cache.0) e.first.0 e.pages) c) there refl
      (λ x p K. taken_backs e x c there p (not_past _ _ inside) K)))))

  rows : (f : PageForest) (c : Command) → RowBacked m s B (answer_of m f c s)
  rows f commands.MakeActor = actor_row m s B
  rows f (commands.ExitActor actor) = exit_row m s B actor.0
  rows f (commands.MakeTemp pages) = temp_row m s B pages
  rows f (commands.OpenSegment seg) = open_row m s B seg.0
  rows f (commands.Destroy cache) = destroy_row m s B cache.0
  rows f (commands.Copy span) = copy_row m s B span
  rows f (commands.Move span) = move_row m s B span
  rows f (commands.Map actor mapping) = map_row m s B actor.0 mapping
  rows f (commands.Split region pages) = split_row m s B region.0 pages
  rows f (commands.Protect region prot) = protect_row m s B region.0 prot
  rows f (commands.Lock region) = lock_row m s B region.0
  rows f (commands.Unlock region) = unlock_row m s B region.0
  rows f (commands.Unmap region) = unmap_row m s B region.0
  rows f (commands.Status region) = status_row m s B region.0
  rows f (commands.Find actor address) = find_row m s B actor.0 address
  rows f (commands.Load actor address length) = load_row m s B actor.0 address length
  rows f (commands.Store actor address piece) = store_row m s B actor.0 address piece
  rows f (commands.Sync extent) = sync_row m s B extent
  rows f (commands.Flush extent) = flush_row m s B extent
  rows f (commands.Invalidate extent) = invalidate_row extent
  rows f (commands.PageOut count) = B
  rows f (commands.Chain cache page) = chain_row m s B f cache page.0
  rows f commands.Stat = B

-- Segments that back the caches of a machine back those of the machine after any answer by them.
pub backed_after : (m next : Machine) (f : Option PageForest) (c : Command) (s : Segments) (a : Answer) (rises : MapperCounts) → AreBacked m.caches s → Outcome m f c s a next rises → AreBacked next.caches s
backed_after m next f c s (Ok r) rises B o = subst (λ (x : Answered). AreBacked x.next.caches s) o (rows m s B (forest_shown f m) c)
backed_after m next f c s (Err (troubles.Refused r)) rises B o = subst (λ (x : Answered). AreBacked x.next.caches s) o (rows m s B (forest_shown f m) c)
backed_after m next f c s (Err (troubles.Mapper at)) rises B o = subst (λ (x : Machine). AreBacked x.caches s) (sym o.0) B
backed_after m next f c s (Err troubles.Memory) rises B o = subst (λ (x : Machine). AreBacked x.caches s) (sym o.0) B
