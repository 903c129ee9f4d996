use Rattle.std.proofs.result.Match.{err_is}
use Rattle.std.proofs.Common.{◌≡◌, ◌==◌, ℕ, ◌+◌, ◌*◌, ◌%◌, ◌^◌, ◌<◌, ◌≤◌, true, false, List, Option, Some, map, ap, sym, ◌∙◌, arith}
use Rattle.std.specs.Prelude.{nat_lt, nat_le}
use Rattle.std.specs.List.{list_any}
use Rattle.std.proofs.lemmas.Bool.Decides.{nat_tests}
use Rattle.std.proofs.lemmas.List.{length-map}
use Rattle.vm_ids.specs.declared.reply.Reply.TheVariants as replies
use Rattle.vm_ids.specs.declared.numbers.CacheId.{CacheId}
use Rattle.vm_model.specs.declared.limits.TheConstants.{MOST_MADE}
use Rattle.vm_model.specs.Machine.{numbered}
use Rattle.vm_model.specs.Answering.{overlaps, passes_end, reply}
use Rattle.vm_model.specs.declared.tables.Actor.{Actor}
use Rattle.vm_model.specs.declared.tables.Cache.{Cache}
use Rattle.vm_model.specs.declared.tables.Region.{Region}
use Rattle.vm_model.specs.Seen.{actor_seen, cache_seen, region_seen}
use Rattle.vm_model.proofs.Machines.Sound.{map_row, seen_added}
use Rattle.vm_model.proofs.maps.map.Goals as goal

same_zero : (n : ℕ) → n ≡ 0 → (n == 0) ≡ true
same_zero n e = grind (arith, nat_tests)

not_yet : (most n : ℕ) → n < most → nat_le most n ≡ false
not_yet most n h = grind (arith, nat_tests)

not_past : (a b : ℕ) → nat_lt a b ≡ false → b ≤ a
not_past a b e = grind (arith, nat_tests)

pub put_region-requires-clause-placed : goal.put_region-requires-clause-placed
put_region-requires-clause-placed c =
    let t = c.args.tables.now in
    let p = c.args.mapping.now in
    let a : Actor = c.in-Some.found.now in
    let k : Cache = c.in-Some-cache_at.cache.now in
    let here : numbered t.actors.items c.args.actor.0 ≡ Some a = sym (c.in-Some.ensures ∙ ap (λ (xs : List (Option Actor)). numbered xs c.args.actor.0) c.deref.ensures.value) in
    let there : numbered t.caches.items p.extent.cache.0 ≡ Some k = sym (c.in-Some-cache_at.ensures ∙ ap (λ (xs : List (Option Cache)). numbered xs p.extent.cache.0) c.deref-2.ensures.value) in
    let below : nat_lt (2 ^ 48) (p.address + t.page_bytes * p.extent.pages) ≡ false = sym c.if-passes_addresses.ensures in
    let inside : passes_end (cache_seen k) p.extent.first.0 p.extent.pages ≡ false = sym c.if-passes_end.ensures in
    let parts = c.region_for.ensures.parts in
    record {
      ends = omega (arith, not_past _ _ below, parts.0, ap (λ n. t.page_bytes * n) parts.1);
      cache = k;
      there = ap (λ (n : CacheId). numbered t.caches.items n.0) parts.2 ∙ there;
      within = omega (arith, not_past _ _ inside, parts.1, parts.3, length-map k.pages.items (λ v. v.items));
    }

pub returns-clause-outcome : goal.returns-clause-outcome
returns-clause-outcome c =
    let t = c.args.tables.now in
    let p = c.args.mapping.now in
    let a : Actor = c.in-Some.found.now in
    let k : Cache = c.in-Some-cache_at.cache.now in
    let here : numbered t.actors.items c.args.actor.0 ≡ Some a = sym (c.in-Some.ensures ∙ ap (λ (xs : List (Option Actor)). numbered xs c.args.actor.0) c.deref.ensures.value) in
    let there : numbered t.caches.items p.extent.cache.0 ≡ Some k = sym (c.in-Some-cache_at.ensures ∙ ap (λ (xs : List (Option Cache)). numbered xs p.extent.cache.0) c.deref-2.ensures.value) in
    let below : nat_lt (2 ^ 48) (p.address + t.page_bytes * p.extent.pages) ≡ false = sym c.if-passes_addresses.ensures in
    let inside : passes_end (cache_seen k) p.extent.first.0 p.extent.pages ≡ false = sym c.if-passes_end.ensures in
    let aligned : (p.address % t.page_bytes == 0) ≡ true = same_zero (p.address % t.page_bytes) c.if-mapping-page_bytes-ne0.false in
    let apart : list_any (overlaps t.page_bytes p.address p.extent.pages) (actor_seen a) ≡ false = sym (c.if-overlaps_any.ensures ∙ ap (λ (rs : List Region). list_any (overlaps t.page_bytes p.address p.extent.pages) (map region_seen rs)) c.deref-3.ensures.value) in
    let fewer : nat_le MOST_MADE t.regions_made ≡ false = not_yet MOST_MADE t.regions_made c.if-tables-ge-MOST_MADE.false in
    let row = map_row t c.args.actor.0 p a k here there aligned below inside apart fewer in
    λ h. row ∙ ap (reply (replies.Region (record { 0 = t.regions_made + 1 }))) (sym (c.in_ok-put_region.ensures.ok ∙ seen_added t c.args.actor.0 p a c.region_for.result here c.region_for.ensures.region))

pub returns-in_err-put_region-clause-outcome : goal.returns-in_err-put_region-clause-outcome
returns-in_err-put_region-clause-outcome c =
    let t = c.args.tables.now in
    let p = c.args.mapping.now in
    let a : Actor = c.in-Some.found.now in
    let k : Cache = c.in-Some-cache_at.cache.now in
    let here : numbered t.actors.items c.args.actor.0 ≡ Some a = sym (c.in-Some.ensures ∙ ap (λ (xs : List (Option Actor)). numbered xs c.args.actor.0) c.deref.ensures.value) in
    let there : numbered t.caches.items p.extent.cache.0 ≡ Some k = sym (c.in-Some-cache_at.ensures ∙ ap (λ (xs : List (Option Cache)). numbered xs p.extent.cache.0) c.deref-2.ensures.value) in
    let below : nat_lt (2 ^ 48) (p.address + t.page_bytes * p.extent.pages) ≡ false = sym c.if-passes_addresses.ensures in
    let inside : passes_end (cache_seen k) p.extent.first.0 p.extent.pages ≡ false = sym c.if-passes_end.ensures in
    let aligned : (p.address % t.page_bytes == 0) ≡ true = same_zero (p.address % t.page_bytes) c.if-mapping-page_bytes-ne0.false in
    let apart : list_any (overlaps t.page_bytes p.address p.extent.pages) (actor_seen a) ≡ false = sym (c.if-overlaps_any.ensures ∙ ap (λ (rs : List Region). list_any (overlaps t.page_bytes p.address p.extent.pages) (map region_seen rs)) c.deref-3.ensures.value) in
    let fewer : nat_le MOST_MADE t.regions_made ≡ false = not_yet MOST_MADE t.regions_made c.if-tables-ge-MOST_MADE.false in
    let row = map_row t c.args.actor.0 p a k here there aligned below inside apart fewer in
    λ h. rw (err_is c.from_residual.result _ c.from_residual.ensures.1) (c.in_err-put_region.ensures.err, tt, rw row tt)
