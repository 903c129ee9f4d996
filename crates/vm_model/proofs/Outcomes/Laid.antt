-- Regions stay in live caches.
use Rattle.std.proofs.Common.{◌≡◌, ℕ, ◌+◌, ◌-◌, ◌*◌, ◌/◌, ◌%◌, ◌<◌, ◌≤◌, Bool, true, false, cond, List, [], ◌∷◌, length, take, drop, replicate, Option, Some, None, refl, sym, ap, subst, ◌∙◌, arith, inl, inr}
use Rattle.std.specs.Prelude.{◌||◌, ◌&&◌, nat_lt, nat_le, option_and_then, slice_get, IsSome, IfOk, Result, Ok, Err, All}
use Rattle.std.specs.FinMap.{get}
use Rattle.std.specs.Option.{option_map_or}
use Rattle.std.proofs.lemmas.Bool.Decides.{nat_tests}
use Rattle.std.proofs.lemmas.List.{length-replicate, length-take-le, length-drop, length-set}
use Rattle.std.proofs.lemmas.List.FromFn.{length-map-range_with_len}
use Rattle.std.proofs.lemmas.List.Elements.{All-set, All-nil, All-cons, All-head, All-tail, All-push}
use Rattle.std.proofs.lemmas.Option.{slice_get-get_or}
use Rattle.std.proofs.lemmas.Grind.{common_steps}
use Rattle.vm_ids.specs.Held.{Segments}
use Rattle.vm_ids.specs.declared.command.Command.{Command}
use Rattle.vm_ids.specs.declared.command.Command.TheVariants as commands
use Rattle.vm_ids.specs.declared.command.Extent.{Extent}
use Rattle.vm_ids.specs.declared.command.Mapping.{Mapping}
use Rattle.vm_ids.specs.declared.command.Prot.{Prot}
use Rattle.vm_ids.specs.declared.command.Span.{Span}
use Rattle.vm_ids.specs.declared.numbers.CacheId.{CacheId}
use Rattle.vm_ids.specs.declared.refusal.Refusal.{Refusal}
use Rattle.vm_ids.specs.declared.refusal.Refusal.TheVariants as refusals
use Rattle.vm_ids.specs.declared.reply.Trouble.TheVariants as troubles
use Rattle.vm_model.specs.Machine.{Machine, Cache, Page, Region, Actor, actor_of, cache_of, zero_page}
use Rattle.vm_model.specs.Place.{Place, place, placed, place_among, place_of_actor, region_at, holds}
use Rattle.vm_model.specs.PageForest.{PageForest, page_in}
use Rattle.vm_model.specs.Answering.{answer_of, chain_answer, change_region, copy_of, destroy_of, flush_of, held_for, held_part, insert_region, invalidate_of, is_mapped, load_of, lock_of, make_actor_of, exit_actor_of, make_temp_of, map_of, move_of, open_of, opened, overwrite, page_at, passes_end, put_cache, put_page, put_pages, region_of, split_of, protect_of, status_of, find_of, store_of, sync_of, temporary, unlock_of, unmap_of, write_at}
use Rattle.vm_model.specs.Regions.{back_of, region_with, split_at, with_lock, with_prot}
use Rattle.vm_model.specs.Laws.{IsLaid, LiesIn, LieIn, MachinesStayLaid, LaidMachinesAreMapped}
use Rattle.vm_model.proofs.Parts.Lists.{length-overwrite, numbered-set, numbered_place, weaker_ok}
use Rattle.vm_model.proofs.Outcomes.Rows.{each_unless, each_some, each_ok}
use Rattle.vm_model.proofs.Machines.Sound.{numbered-all}
use Rattle.vm_model.proofs.Outcomes.Lying.{RowLaid, actors_gone, changed_lie, insert_all, more_laid, neither, not_past, pages_laid, put_laid, unmapped}

module _ (m : Machine) (P : IsLaid m) where
  actor_row : RowLaid (make_actor_of m)
  unfolding make_actor_of
  actor_row = each_unless RowLaid _ _ m _ P (λ e. record { some = P.some; lie = All-push (LieIn m.caches) m.actors (Some []) P.lie (All-nil (LiesIn m.caches)) })

  exit_row : (n : ℕ) → RowLaid (exit_actor_of m n)
  unfolding exit_actor_of
  exit_row n = each_some RowLaid _ _ m _ P (λ regions here. record { some = P.some; lie = All-set (LieIn m.caches) m.actors (n - 1) None tt P.lie })

  temp_row : (pages : ℕ) → RowLaid (make_temp_of m pages)
  unfolding make_temp_of
  temp_row pages = each_unless RowLaid _ _ m _ P (λ e. more_laid m (temporary m.page_bytes pages) P)

  open_row : (seg : ℕ) (held : Option (List Page)) → RowLaid (open_of m seg held)
  unfolding open_of
  open_row seg held =
      each_unless RowLaid _ _ m _ P (λ free.
      each_unless RowLaid _ _ m _ P (λ fewer.
      each_some RowLaid held _ m _ P (λ pages holds.
      each_unless RowLaid _ _ m _ P (λ room. more_laid m (opened seg pages) P))))

  destroy_row : (n : ℕ) → RowLaid (destroy_of m n)
  unfolding destroy_of
  destroy_row n =
      each_some RowLaid (cache_of m n) _ m _ P (λ c there.
      each_unless RowLaid (is_mapped m n) _ m _ P (λ free. record {
        some = P.some;
        lie = actors_gone m.caches n (numbered_place m.caches n c there).0 m.actors free P.lie;
      }))

  part_fits : (s : Span) (source destination : Cache) → s.from_page.0 + s.pages ≤ length source.pages → s.to_page.0 + s.pages ≤ length destination.pages → s.to_page.0 + length (take s.pages (drop s.from_page.0 source.pages)) ≤ length destination.pages
  part_fits s source destination a b = omega (arith, b, length-take-le s.pages (drop s.from_page.0 source.pages) (omega (arith, a, length-drop s.from_page.0 source.pages)))

  copy_row : (s : Span) (h : Segments) → RowLaid (copy_of m s h)
  unfolding copy_of
  copy_row s h =
      each_some RowLaid (cache_of m s.from.0) _ m _ P (λ source from.
      each_some RowLaid (cache_of m s.to.0) _ m _ P (λ destination to.
      each_unless RowLaid (passes_end source s.from_page.0 s.pages || passes_end destination s.to_page.0 s.pages) _ m _ P (λ inside.
      let ends : (s.from_page.0 + s.pages ≤ length source.pages) × (s.to_page.0 + s.pages ≤ length destination.pages) = neither _ _ _ _ inside in
      each_unless RowLaid _ _ m _ P (λ apart.
      each_unless RowLaid _ _ m _ P (λ unlocked.
      each_unless RowLaid _ _ m _ P (λ allowed.
      pages_laid m s.to.0 s.to_page.0 (take s.pages (drop s.from_page.0 source.pages)) destination to (part_fits s source destination ends.0 ends.1) P))))))

  move_row : (s : Span) (h : Segments) → RowLaid (move_of m s h)
  unfolding move_of
  move_row s h =
      each_some RowLaid (cache_of m s.from.0) _ m _ P (λ source from.
      each_some RowLaid (cache_of m s.to.0) _ m _ P (λ destination to.
      each_unless RowLaid (passes_end source s.from_page.0 s.pages || passes_end destination s.to_page.0 s.pages) _ m _ P (λ inside.
      let ends : (s.from_page.0 + s.pages ≤ length source.pages) × (s.to_page.0 + s.pages ≤ length destination.pages) = neither _ _ _ _ inside in
      each_unless RowLaid _ _ m _ P (λ temporary.
      each_unless RowLaid _ _ m _ P (λ apart.
      each_unless RowLaid _ _ m _ P (λ unlocked.
      each_unless RowLaid _ _ m _ P (λ allowed.
      let part : List Page = take s.pages (drop s.from_page.0 source.pages) in
      let fits = part_fits s source destination ends.0 ends.1 in
      let d : Cache = put_pages s.to_page.0 part destination in
      let next : Machine = put_cache m s.to.0 d in
      let laid : IsLaid next = pages_laid m s.to.0 s.to_page.0 part destination to fits P in
      let zeros : List Page = replicate s.pages (zero_page m.page_bytes) in
      let same : length d.pages ≡ length destination.pages = length-overwrite s.to_page.0 part destination.pages fits in
      let left : (c : Cache) × (cache_of next s.from.0 ≡ Some c) × (length c.pages ≡ length source.pages) = elim (numbered-set m.caches s.to.0 s.from.0 destination d source to from) [
        | inl e ↦ (source, e, refl)
        | inr e ↦ (d, e.1, same ∙ sym (ap (λ (c : Cache). length c.pages) e.0))
      ] in
      subst IsLaid (sym (ap (λ (o : Option Cache). option_map_or (λ c. put_cache next s.from.0 (put_pages s.from_page.0 zeros c)) o next) left.1))
      (pages_laid next s.from.0 s.from_page.0 zeros left.0 left.1 (omega (arith, ends.0, left.2, length-replicate s.pages (zero_page m.page_bytes))) laid))))))))

  map_row : (actor : ℕ) (p : Mapping) → RowLaid (map_of m actor p)
  unfolding map_of
  map_row actor p =
      each_some RowLaid (actor_of m actor) _ m _ P (λ regions here.
      each_some RowLaid (cache_of m p.extent.cache.0) _ m _ P (λ cache there.
      each_unless RowLaid _ _ m _ P (λ aligned.
      each_unless RowLaid _ _ m _ P (λ below.
      each_unless RowLaid (passes_end cache p.extent.first.0 p.extent.pages) _ m _ P (λ inside.
      each_unless RowLaid _ _ m _ P (λ apart.
      each_unless RowLaid _ _ m _ P (λ fewer.
      let r : Region = region_of (m.regions_made + 1) p in
      let old : All (LiesIn m.caches) regions = numbered-all (LieIn m.caches) m.actors actor regions here P.lie in
      record {
        some = P.some;
        lie = All-set (LieIn m.caches) m.actors (actor - 1) (Some (insert_region r regions)) (insert_all (LiesIn m.caches) r regions (record { cache = cache; there = there; within = not_past _ _ inside }) old) P.lie;
      })))))))

  split_row : (n pages : ℕ) → RowLaid (split_of m n pages)
  unfolding split_of
  split_row n pages =
      each_some RowLaid (region_with n m.actors) _ m _ P (λ r there.
      each_unless RowLaid (nat_le r.pages pages) _ m _ P (λ fewer.
      each_unless RowLaid _ _ m _ P (λ room.
      let fresh : ℕ = m.regions_made + 1 in
      let less : pages ≤ r.pages = grind (arith, nat_tests, fewer) in
      record {
        some = P.some;
        lie = changed_lie m.caches n (split_at m.page_bytes pages fresh) r m.actors there
            (λ (p : LiesIn m.caches r). All-cons (LiesIn m.caches) (record r { pages = pages }) (back_of m.page_bytes pages fresh r ∷ []) (record { cache = p.cache; there = p.there; within = omega (arith, p.within, less) })
            (All-cons (LiesIn m.caches) (back_of m.page_bytes pages fresh r) [] (record { cache = p.cache; there = p.there; within = omega (arith, p.within, less) }) (All-nil (LiesIn m.caches)))) P.lie;
      })))

  protect_row : (n : ℕ) (prot : Prot) → RowLaid (protect_of m n prot)
  unfolding protect_of
  protect_row n prot =
      each_some RowLaid (region_with n m.actors) _ m _ P (λ r there.
      record {
        some = P.some;
        lie = changed_lie m.caches n (with_prot prot) r m.actors there
            (λ (p : LiesIn m.caches r). All-cons (LiesIn m.caches) (record r { may_write = prot.write }) [] (record { cache = p.cache; there = p.there; within = p.within }) (All-nil (LiesIn m.caches))) P.lie;
      })

  -- a region that is locked, or isn't any more
  lock_laid : (n : ℕ) (locked : Bool) (r : Region) → region_with n m.actors ≡ Some r → IsLaid (change_region m n (with_lock locked))
  lock_laid n locked r there = record {
    some = P.some;
    lie = changed_lie m.caches n (with_lock locked) r m.actors there
        (λ (p : LiesIn m.caches r). All-cons (LiesIn m.caches) (record r { locked = locked }) [] (record { cache = p.cache; there = p.there; within = p.within }) (All-nil (LiesIn m.caches))) P.lie;
  }

  lock_row : (n : ℕ) → RowLaid (lock_of m n)
  unfolding lock_of
  lock_row n =
      each_some RowLaid (region_with n m.actors) _ m _ P (λ r there.
      each_unless RowLaid _ _ m _ P (λ free.
      each_unless RowLaid _ _ m _ P (λ few. lock_laid n true r there)))

  unlock_row : (n : ℕ) → RowLaid (unlock_of m n)
  unfolding unlock_of
  unlock_row n =
      each_some RowLaid (region_with n m.actors) _ m _ P (λ r there.
      each_unless RowLaid _ _ m _ P (λ locked. lock_laid n false r there))

  status_row : (n : ℕ) → RowLaid (status_of m n)
  unfolding status_of
  status_row n = each_some RowLaid _ _ m _ P (λ status there. P)

  find_row : (actor address : ℕ) → RowLaid (find_of m actor address)
  unfolding find_of
  find_row actor address = each_some RowLaid _ _ m _ P (λ regions here. each_some RowLaid _ _ m _ P (λ r holds. P))

  unmap_row : (n : ℕ) → RowLaid (unmap_of m n)
  unfolding unmap_of
  unmap_row n =
      each_some RowLaid _ _ m _ P (λ r there.
      each_unless RowLaid _ _ m _ P (λ unlocked. record { some = P.some; lie = unmapped m.caches n m.actors P.lie }))

  sync_row : (e : Extent) → RowLaid (sync_of m e)
  unfolding sync_of
  sync_row e =
      each_some RowLaid _ _ m _ P (λ c there.
      each_some RowLaid _ _ m _ P (λ seg named.
      each_unless RowLaid _ _ m _ P (λ inside. P)))

  flush_row : (e : Extent) → RowLaid (flush_of m e)
  unfolding flush_of
  flush_row e =
      each_some RowLaid _ _ m _ P (λ c there.
      each_some RowLaid _ _ m _ P (λ seg named.
      each_unless RowLaid _ _ m _ P (λ inside.
      each_unless RowLaid _ _ m _ P (λ unlocked. P))))

  invalidate_row : (e : Extent) (held : Option (List Page)) → RowLaid (invalidate_of m e held)
  unfolding invalidate_of
  invalidate_row e held =
      each_some RowLaid (cache_of m e.cache.0) _ m _ P (λ c there.
      each_some RowLaid c.segment _ m _ P (λ seg named.
      each_unless RowLaid (passes_end c e.first.0 e.pages) _ m _ P (λ inside.
      each_unless RowLaid _ _ m _ P (λ unlocked.
      let part : List Page = held_part held e.first.0 e.pages in
      let many : length part ≡ e.pages = length-map-range_with_len _ e.first.0 e.pages in
      pages_laid m e.cache.0 e.first.0 part c there (omega (arith, not_past _ _ inside, many)) P))))

  load_row : (actor address length : ℕ) → RowLaid (load_of m actor address length)
  unfolding load_of
  load_row actor address length = each_ok RowLaid _ m _ (λ r. P) (λ at e. P)

  chain_row : (f : PageForest) (cache : CacheId) (page : ℕ) → RowLaid (chain_answer m f cache page)
  unfolding chain_answer
  chain_row f cache page = each_some RowLaid _ _ m _ P (λ c there. each_unless RowLaid _ _ m _ P (λ within. P))

-- The place of an access

quotient_less : (b n x : ℕ) → 1 ≤ b → x < b * n → x / b < n
quotient_less b n x some less = grind (arith, common_steps)

-- what is known of a place
pub record IsAt (m : Machine) (length : ℕ) (at : Place) : Type 0 where
  pub lies : LiesIn m.caches at.region
  pub page : at.page < at.region.offset + at.region.pages
  pub byte : at.byte + length ≤ m.page_bytes

both : (a b : Bool) → (a && b) ≡ true → (a ≡ true) × (b ≡ true)
both true b e = (refl, e)
both false b e = absurd (cc e)

in_region : (b address : ℕ) (r : Region) → 1 ≤ b → holds b address r ≡ true → r.offset + (address - r.start) / b < r.offset + r.pages
in_region b address r some h =
    let each = both (nat_le r.start address) (nat_lt address (r.start + b * r.pages)) h in
    let from : r.start ≤ address = grind (arith, nat_tests, each.0) in
    let below : address < r.start + b * r.pages = grind (arith, nat_tests, each.1) in
    omega (arith, quotient_less b r.pages (address - r.start) some (omega (arith, from, below)))

found_at : (m : Machine) (length address : ℕ) (rs : List Region) → 1 ≤ m.page_bytes → address % m.page_bytes + length ≤ m.page_bytes → All (LiesIn m.caches) rs
    → IfOk (placed m.page_bytes address (region_at m.page_bytes address rs)) (IsAt m length)
found_at m length address [] some fits lie = tt
found_at m length address (r ∷ rs) some fits lie = go (holds m.page_bytes address r) refl (found_at m length address rs some fits (All-tail (LiesIn m.caches) r rs lie))
  where
    go : (b : Bool) → holds m.page_bytes address r ≡ b → IfOk (placed m.page_bytes address (region_at m.page_bytes address rs)) (IsAt m length)
        → IfOk (placed m.page_bytes address (cond b (Some r) (region_at m.page_bytes address rs))) (IsAt m length)
    go true e rest = record { lies = All-head (LiesIn m.caches) r rs lie; page = in_region m.page_bytes address r some e; byte = fits }
    go false e rest = rest

among : (m : Machine) (regions : Actor) (address length : ℕ) → 1 ≤ m.page_bytes → All (LiesIn m.caches) regions → IfOk (place_among m.page_bytes regions address length) (IsAt m length)
among m regions address length some lie = go (nat_lt m.page_bytes (address % m.page_bytes + length)) refl
  where
    go : (b : Bool) → nat_lt m.page_bytes (address % m.page_bytes + length) ≡ b → IfOk (cond b (Err refusals.Crosses) (placed m.page_bytes address (region_at m.page_bytes address regions))) (IsAt m length)
    go true e = tt
    go false e = found_at m length address regions some (not_past _ _ e) lie

place_is_at : (m : Machine) (actor address length : ℕ) → IsLaid m → IfOk (place m actor address length) (IsAt m length)
place_is_at m actor address length P = go (actor_of m actor) refl
  where
    go : (o : Option Actor) → actor_of m actor ≡ o → IfOk (place_of_actor m.page_bytes o address length) (IsAt m length)
    go None e = tt
    go (Some regions) e = among m regions address length P.some (numbered-all (LieIn m.caches) m.actors actor regions e P.lie)

-- its page is there
page_at_place : (m : Machine) (length : ℕ) (at : Place) → IsAt m length at → (c : Cache) × (cache_of m at.region.cache ≡ Some c) × (p : Page) × (slice_get c.pages at.page ≡ Some p)
page_at_place m length at A =
    let c = A.lies.cache in
    (c, A.lies.there, _, slice_get-get_or c.pages at.page [] (omega (arith, A.page, A.lies.within)))

pub laid_machines_are_mapped : LaidMachinesAreMapped
laid_machines_are_mapped m P = λ actor address length. weaker_ok (place m actor address length) (IsAt m length) (λ (at : Place). IsSome (page_in m at.region.cache at.page))
    (λ at A. let p = page_at_place m length at A in subst IsSome (sym (ap (option_and_then (λ (c : Cache). slice_get c.pages at.page)) p.1 ∙ p.3)) refl)
    (place_is_at m actor address length P)

module _ (m : Machine) (P : IsLaid m) where
  store_row : (actor address : ℕ) (bytes : List ℕ) (h : Segments) → RowLaid (store_of m actor address bytes h)
  unfolding store_of
  store_row actor address bytes h =
      each_ok RowLaid (place m actor address (length bytes)) m _ (λ r. P) (λ at found.
      each_unless RowLaid _ _ m _ P (λ writes.
      each_unless RowLaid _ _ m _ P (λ allowed.
      let A : IsAt m (length bytes) at = subst (λ (o : Result Place Refusal). IfOk o (IsAt m (length bytes))) found (place_is_at m actor address (length bytes) P) in
      let p = page_at_place m (length bytes) at A in
      let c : Cache = p.0 in
      let new : Page = overwrite at.byte bytes (page_at m at) in
      let next : write_at m at bytes ≡ put_cache m at.region.cache (put_page at.page new c) =
      ap (λ (o : Option Cache). option_map_or (λ c. put_cache m at.region.cache (put_page at.page new c)) o m) p.1 in
      subst IsLaid (sym next) (put_laid m at.region.cache c (put_page at.page new c) p.1 (length-set c.pages at.page new) P))))

  rows : (f : PageForest) (c : Command) (h : Segments) → RowLaid (answer_of m f c h)
  rows f commands.MakeActor h = actor_row m P
  rows f (commands.ExitActor actor) h = exit_row m P actor.0
  rows f (commands.MakeTemp pages) h = temp_row m P pages
  rows f (commands.OpenSegment seg) h = open_row m P seg.0 (get h.pages seg.0)
  rows f (commands.Destroy cache) h = destroy_row m P cache.0
  rows f (commands.Copy span) h = copy_row m P span h
  rows f (commands.Move span) h = move_row m P span h
  rows f (commands.Map actor mapping) h = map_row m P actor.0 mapping
  rows f (commands.Split region pages) h = split_row m P region.0 pages
  rows f (commands.Protect region prot) h = protect_row m P region.0 prot
  rows f (commands.Lock region) h = lock_row m P region.0
  rows f (commands.Unlock region) h = unlock_row m P region.0
  rows f (commands.Unmap region) h = unmap_row m P region.0
  rows f (commands.Status region) h = status_row m P region.0
  rows f (commands.Find actor address) h = find_row m P actor.0 address
  rows f (commands.Load actor address length) h = load_row m P actor.0 address length
  rows f (commands.Store actor address piece) h = store_row actor.0 address piece h
  rows f (commands.Sync extent) h = sync_row m P extent
  rows f (commands.Flush extent) h = flush_row m P extent
  rows f (commands.Invalidate extent) h = invalidate_row m P extent (held_for m h extent.cache.0)
  rows f (commands.PageOut count) h = P
  rows f (commands.Chain cache page) h = chain_row m P f cache page.0
  rows f commands.Stat h = P

pub machines_stay_laid : MachinesStayLaid
machines_stay_laid m next f c h (Ok r) rises P o = subst RowLaid o (rows m P f c h)
machines_stay_laid m next f c h (Err (troubles.Refused r)) rises P o = subst RowLaid o (rows m P f c h)
machines_stay_laid m next f c h (Err (troubles.Mapper at)) rises P o = subst IsLaid (sym o.0) P
machines_stay_laid m next f c h (Err troubles.Memory) rises P o = subst IsLaid (sym o.0) P
