use Rattle.std.proofs.Common.{◌≡◌, ◌+◌, ◌-◌, ◌≤◌, length, map, set, Option, Some, ap, sym, refl, ◌∙◌, arith}
use Rattle.std.specs.Prelude.{option_map}
use Rattle.std.proofs.lemmas.List.{length-map}
use Rattle.vm_ids.specs.declared.numbers.SegId.{SegId}
use Rattle.vm_model.specs.Machine.{numbered}
use Rattle.vm_model.specs.Answering.{put_pages}
use Rattle.vm_model.specs.declared.tables.Cache.{Cache}
use Rattle.vm_model.specs.Seen.{HasPages, cache_seen, machine_seen, pages_seen}
use Rattle.vm_model.proofs.Parts.Lists.{length-overwrite, some_and}
use Rattle.vm_model.proofs.Machines.Sound.{sound-put, seen-put, whole-put, found_is, numbered-all}
use Rattle.vm_model.proofs.copies.put_in_cache.Goals as goal

pub returns-clause-sound : goal.returns-clause-sound
returns-clause-sound c =
    let t = c.args.tables.now in
    let n = c.args.number in
    let p = some_and (numbered t.caches.items n) (λ (x : Cache). c.args.first + length c.args.pages.items ≤ length x.pages.items) c.requires.there in
    let old = c.in-Some.cache in
    let new = c.put_pages.new.cache in
    let is : old ≡ p.0 = found_is t.caches.items n p.0 old c.index_mut.result.now p.1 c.index_mut.ensures.value c.in-Some.is in
    let there : numbered t.caches.items n ≡ Some old = p.1 ∙ ap Some (sym is) in
    let whole : HasPages t.page_bytes (Some old) = numbered-all (HasPages t.page_bytes) t.caches.items n old there c.requires.sound.whole in
    let room : c.args.first + length c.args.pages.items ≤ length old.pages.items = omega (arith, p.2, ap (λ (x : Cache). length x.pages.items) is) in
    let same : length new.pages.items ≡ length old.pages.items =
    sym (length-map new.pages.items (λ v. v.items)) ∙ ap length c.put_pages.ensures.pages
    ∙ length-overwrite c.args.first (map (λ v. v.items) c.args.pages.items) (pages_seen old) (omega (arith, room, length-map c.args.pages.items (λ v. v.items), length-map old.pages.items (λ v. v.items)))
    ∙ length-map old.pages.items (λ v. v.items) in
    sound-put t n old new (Rattle.std.specs.Vec.with_item t.caches (n - 1) (Some new)) refl there same
    (whole-put t.page_bytes old new c.args.first c.args.pages.items whole c.requires.whole c.put_pages.ensures.pages)
    c.requires.sound

pub returns-clause-machine : goal.returns-clause-machine
returns-clause-machine c =
    let t = c.args.tables.now in
    let n = c.args.number in
    let p = some_and (numbered t.caches.items n) (λ (x : Cache). c.args.first + length c.args.pages.items ≤ length x.pages.items) c.requires.there in
    let old = c.in-Some.cache in
    let new = c.put_pages.new.cache in
    let is : old ≡ p.0 = found_is t.caches.items n p.0 old c.index_mut.result.now p.1 c.index_mut.ensures.value c.in-Some.is in
    let there : numbered t.caches.items n ≡ Some old = p.1 ∙ ap Some (sym is) in
    let put : cache_seen new ≡ put_pages c.args.first (map (λ v. v.items) c.args.pages.items) (cache_seen old) =
    ap (λ (seg : Option SegId). record { segment = option_map (λ s. s.0) seg; pages = pages_seen new }) c.put_pages.ensures.segment ∙ ap (λ ps. record (cache_seen old) { pages = ps }) c.put_pages.ensures.pages in
    seen-put t n new (Rattle.std.specs.Vec.with_item t.caches (n - 1) (Some new)) refl
    ∙ ap (λ o. record (machine_seen t) { caches = set (machine_seen t).caches (n - 1) o }) (ap Some put ∙ sym (ap (option_map (λ (x : Cache). put_pages c.args.first (map (λ v. v.items) c.args.pages.items) (cache_seen x))) there))
