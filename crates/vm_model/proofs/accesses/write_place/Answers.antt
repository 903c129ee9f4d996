use Rattle.std.proofs.Common.{◌≡◌, ◌-◌, ◌<◌, Some, ap, sym, ◌∙◌, length, refl, arith}
use Rattle.vm_model.specs.Machine.{numbered}
use Rattle.vm_model.specs.declared.tables.Cache.{Cache}
use Rattle.vm_model.specs.Seen.{HasPages, region_seen}
use Rattle.vm_model.proofs.Machines.Sound.{sound-put, seen-put, whole-written, length-written, seen-written, found_is, numbered-all}
use Rattle.vm_model.proofs.accesses.write_place.Goals as goal

pub returns-clause-sound : goal.returns-clause-sound
returns-clause-sound c =
    let t = c.args.tables.now in
    let p = c.requires.placed in
    let n = c.args.found.region.cache.0 in
    let is : c.in-Some.cache ≡ p.cache = found_is t.caches.items n p.cache c.in-Some.cache c.index_mut.result.now p.there c.index_mut.ensures.value c.in-Some.is in
    let there : numbered t.caches.items n ≡ Some c.in-Some.cache = p.there ∙ ap Some (sym is) in
    let whole : HasPages t.page_bytes (Some c.in-Some.cache) = numbered-all (HasPages t.page_bytes) t.caches.items n c.in-Some.cache there c.requires.sound.whole in
    let within : c.args.found.page < length c.in-Some.cache.pages.items = omega (arith, c.requires.within, p.within, ap (λ (x : Cache). length x.pages.items) is) in
    sound-put t n c.in-Some.cache c.write_cache.new.cache (Rattle.std.specs.Vec.with_item t.caches (n - 1) (Some c.write_cache.new.cache)) refl there
    (length-written c.in-Some.cache c.write_cache.new.cache _ _ c.write_cache.ensures.pages)
    (whole-written t.page_bytes c.in-Some.cache c.write_cache.new.cache _ c.args.found.byte c.args.bytes.now whole within c.requires.byte c.write_cache.ensures.pages)
    c.requires.sound

pub returns-clause-machine : goal.returns-clause-machine
returns-clause-machine c =
    let t = c.args.tables.now in
    let p = c.requires.placed in
    let n = c.args.found.region.cache.0 in
    let is : c.in-Some.cache ≡ p.cache = found_is t.caches.items n p.cache c.in-Some.cache c.index_mut.result.now p.there c.index_mut.ensures.value c.in-Some.is in
    let there : numbered t.caches.items n ≡ Some c.in-Some.cache = p.there ∙ ap Some (sym is) in
    seen-put t n c.write_cache.new.cache (Rattle.std.specs.Vec.with_item t.caches (n - 1) (Some c.write_cache.new.cache)) refl
    ∙ seen-written t (record { region = region_seen c.args.found.region; page = c.args.found.page; byte = c.args.found.byte }) c.in-Some.cache c.write_cache.new.cache c.args.bytes.now there c.write_cache.ensures.segment c.write_cache.ensures.pages
