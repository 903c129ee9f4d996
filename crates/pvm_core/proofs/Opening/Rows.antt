-- The answers of opening a segment.
use Rattle.std.proofs.Common.{◌≡◌, ◌==◌, ℕ, zero, suc, ◌+◌, ◌<◌, ◌≤◌, Bool, true, false, cond, List, [], ◌∷◌, length, get_or, Option, Some, None, is_some, refl, ap, ◌∙◌, arith}
use Rattle.std.specs.Prelude.{nat_le, option_map, sum_by}
use Rattle.std.specs.Option.{option_map_or}
use Rattle.std.proofs.lemmas.Bool.Decides.{nat_tests}
use Rattle.vm_ids.specs.declared.numbers.SegId.{SegId}
use Rattle.vm_ids.specs.declared.refusal.Refusal.TheVariants as refusals
use Rattle.vm_ids.specs.declared.reply.Reply.TheVariants as replies
use Rattle.local_cache.specs.Arena.{Table, page_count}
use Rattle.local_cache.specs.Whole.{segment_of}
use Rattle.vm_model.specs.declared.limits.TheConstants.{LIVE_PAGES, MOST_MADE}
use Rattle.vm_model.specs.Answering.{open_of, opened, refuse, reply, unless, with_some}
use Rattle.vm_model.specs.Machine.{Cache, Page, cache_named, is_named_by, live_pages}
use Rattle.vm_model.specs.PageForest.{PageForest}
use Rattle.pvm_core.specs.Manager.{Manager, cache_shown, caches_shown, machine_by}
use Rattle.pvm_core.proofs.Homes.Named.{named_back}
use Rattle.pvm_core.proofs.Opening.Machine.{with_cache}
use Rattle.pvm_core.proofs.NewCaches.NewCache.{at_most, less, not_less, not_most}
use Rattle.pvm_core.proofs.Meaning.Shown.{shown_live, shown_made}

itself : (n : ℕ) → (n == n) ≡ true
itself n = grind (arith, nat_tests)

named_here : (f : PageForest) (n : ℕ) (t : Table) (s : SegId) → t.segment ≡ Some s → is_named_by s.0 (Some (cache_shown f n t)) ≡ true
named_here f n t s e = ap (λ o. option_map_or (λ (n : ℕ). n == s.0) (option_map (λ (z : SegId). z.0) o) false) e ∙ itself s.0

-- a cache of the segment is found
found : (f : PageForest) (first : ℕ) (ts : List (Option Table)) (k : ℕ) (s : SegId) → option_map (λ (t : Table). t.segment) (get_or ts k None) ≡ Some (Some s) → is_some (cache_named (caches_shown f first ts) s.0) ≡ true
found f first [] k s e = absurd (cc e)
found f first (t ∷ ts) zero s e = here t e
  where
    here : (o : Option Table) → option_map (λ (t : Table). t.segment) o ≡ Some (Some s) → is_some (cond (is_named_by s.0 (option_map (cache_shown f first) o)) (option_map (cache_shown f first) o) (cache_named (caches_shown f (first + 1) ts) s.0)) ≡ true
    here None e = absurd (cc e)
    here (Some u) e = (let of : u.segment ≡ Some s = cc e in ap (λ (b : Bool). is_some (cond b (Some (cache_shown f first u)) (cache_named (caches_shown f (first + 1) ts) s.0))) (named_here f first u s of))
found f first (t ∷ ts) (suc k) s e = here t (found f (first + 1) ts k s e)
  where
    either : (b : Bool) (c : Cache) (o : Option Cache) → is_some o ≡ true → is_some (cond b (Some c) o) ≡ true
    either true c o e = refl
    either false c o e = e

    here : (o : Option Table) → is_some (cache_named (caches_shown f (first + 1) ts) s.0) ≡ true → is_some (cond (is_named_by s.0 (option_map (cache_shown f first) o)) (option_map (cache_shown f first) o) (cache_named (caches_shown f (first + 1) ts) s.0)) ≡ true
    here None rest = rest
    here (Some u) rest = either (is_named_by s.0 (Some (cache_shown f first u))) (cache_shown f first u) (cache_named (caches_shown f (first + 1) ts) s.0) rest

module _ (p : Manager) (f : PageForest) (seg : SegId) where
  count : length (machine_by p f).caches ≡ length p.caches.caches
  count = shown_made f 1 p.caches.caches

  total : live_pages (machine_by p f) ≡ sum_by page_count p.caches.caches
  total = shown_live f 1 p.caches.caches

  named_at : (n : ℕ) → segment_of p.caches n ≡ Some (Some seg) → is_some (cache_named (machine_by p f).caches seg.0) ≡ true
  named_at zero e = absurd (cc e)
  named_at (suc k) e = found f 1 p.caches.caches k seg e

  unnamed : ((n : ℕ) → segment_of p.caches n ≡ Some (Some seg) → ⊥) → is_some (cache_named (machine_by p f).caches seg.0) ≡ false
  unnamed free = go (cache_named (machine_by p f).caches seg.0) refl
    where
      go : (o : Option Cache) → cache_named (machine_by p f).caches seg.0 ≡ o → is_some (cache_named (machine_by p f).caches seg.0) ≡ false
      go None e = ap is_some e
      go (Some c) e = (let b = named_back f 1 p.caches.caches seg.0 c e in absurd (free (suc b.0) (ap (option_map (λ (t : Table). t.segment)) b.2 ∙ ap (λ (z : Option SegId). Some z) b.3)))

  pub in_use : (held : Option (List Page)) (n : ℕ) → segment_of p.caches n ≡ Some (Some seg) → open_of (machine_by p f) seg.0 held ≡ refuse (machine_by p f) refusals.SegmentInUse
  unfolding open_of unless
  in_use held n e = (let is = named_at n e in rw is refl)

  module _ (free : (n : ℕ) → segment_of p.caches n ≡ Some (Some seg) → ⊥) where
    pub many_made : (held : Option (List Page)) → MOST_MADE ≤ length p.caches.caches → open_of (machine_by p f) seg.0 held ≡ refuse (machine_by p f) refusals.TooMany
    unfolding open_of unless
    many_made held e =
        let out = unnamed free in
        let many = at_most MOST_MADE (length (machine_by p f).caches) (omega (arith, e, count)) in
        rw (out, many) refl

    module _ (low : length p.caches.caches < MOST_MADE) where
      few : nat_le MOST_MADE (length (machine_by p f).caches) ≡ false
      few = not_most MOST_MADE (length (machine_by p f).caches) (omega (arith, low, count))

      pub none_held : open_of (machine_by p f) seg.0 None ≡ refuse (machine_by p f) refusals.NoSegment
      unfolding open_of unless with_some
      none_held = (let out = unnamed free in let few = few in rw (out, few) refl)

      pub many_live : (pages : List Page) (live : ℕ) → live ≡ sum_by page_count p.caches.caches → LIVE_PAGES < live + length pages → open_of (machine_by p f) seg.0 (Some pages) ≡ refuse (machine_by p f) refusals.TooMany
      unfolding open_of unless with_some
      many_live pages live is e =
          let out = unnamed free in
          let few = few in
          let many = less LIVE_PAGES (live_pages (machine_by p f) + length pages) (omega (arith, e, is, total)) in
          rw (out, few, many) refl

      pub open_row : (pages : List Page) (live : ℕ) → live ≡ sum_by page_count p.caches.caches → live + length pages ≤ LIVE_PAGES
          → open_of (machine_by p f) seg.0 (Some pages) ≡ reply (replies.Cache (record { 0 = length (machine_by p f).caches + 1 })) (with_cache (machine_by p f) (opened seg.0 pages))
      unfolding open_of unless with_some
      open_row pages live is room =
          let out = unnamed free in
          let few = few in
          let enough = not_less LIVE_PAGES (live_pages (machine_by p f) + length pages) (omega (arith, room, is, total)) in
          rw (out, few, enough) refl
