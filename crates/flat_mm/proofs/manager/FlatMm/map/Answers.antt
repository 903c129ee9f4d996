use Rattle.std.proofs.result.Match.{err_is}
use Rattle.std.proofs.Common.{◌≡◌, ◌∙◌, Option, Ok, Err, ap, length, refl, sym}
use Rattle.std.specs.Prelude.{option_map}
use Rattle.vm_ids.specs.declared.command.Command.TheVariants as commands
use Rattle.vm_ids.specs.declared.reply.Reply.TheVariants as replies
use Rattle.vm_ids.specs.declared.reply.Trouble.TheVariants as troubles
use Rattle.vm_model.specs.Answering.{reply}
use Rattle.vm_model.specs.Machine.{numbered}
use Rattle.contexts.specs.Actors.{Actors, machine_with, with_region}
use Rattle.flat_mm.specs.Manager.{caches_in, sizes_in}
use Rattle.flat_mm.proofs.Acting.{acted, acted_sound, sizes_plain, stayed}
use Rattle.std.proofs.Common.{◌-◌, ℕ}
use Rattle.std.proofs.lemmas.List.{length-set}
use Rattle.vm_model.specs.Answering.{insert_region}
use Rattle.contexts.specs.Actors.{next_region}
use Rattle.contexts.specs.Maps.{map_refusal}
use Rattle.contexts.specs.Placed.{AreRight}
use Rattle.contexts.proofs.Placing.{after_either, next_placed, right_mapped}
use Rattle.contexts.proofs.RegionRows.{IsMappable, is_mappable, map_refused, map_row, size_in}
use Rattle.flat_mm.proofs.manager.FlatMm.map.Goals.{After-map, After-size-size}
use Rattle.flat_mm.proofs.manager.FlatMm.map.Goals as goal

size : (c : After-size-size) → size_in (numbered (caches_in c.self.inside.store) c.args.mapping.extent.cache.0) ≡ c.size-size.result
size c = sizes_plain c.self.inside.store c.args.mapping.extent.cache.0 ∙ sym c.size-size.ensures.size

pub returns-in-Some : goal.returns-in-Some
returns-in-Some c =
    let i = c.self.inside in
    let x = c.args.mapping in
    stayed i.store i.contexts i.actors c.self.invariant c.args.self.now c.self.view_is (commands.Map c.args.actor x) (record { reaches = refl; needs = λ m next. refl; said = λ m h a. tt }) (Err (troubles.Refused c.in-Some.refusal))
    (λ h. map_refused i.contexts x (caches_in i.store) i.store.frames c.args.actor.0 c.in-Some.refusal (numbered i.contexts.actors c.args.actor.0) (numbered (caches_in i.store) x.extent.cache.0) refl refl
    (ap (λ (q : Option ℕ). map_refusal i.contexts (numbered i.contexts.actors c.args.actor.0) q x) (size (goal.at.returns-in-Some c).After-size-size) ∙ sym c.map_refusal.ensures ∙ c.in-Some.is))

page : (c : After-map) → c.map.new.self.page_bytes ≡ c.self.inside.contexts.page_bytes
page c =
    let t = c.self.inside.contexts in
    after_either (λ (u : Actors). u.page_bytes ≡ t.page_bytes) t c.map.new.self (with_region t c.args.actor.0 c.args.mapping) c.map.result c.map.ensures.ok c.map.ensures.err refl refl

pub invariant_of-self : goal.invariant_of-self
invariant_of-self c =
    let i = c.self.inside in
    let t = i.contexts in
    let x = c.args.mapping in
    let e = c.map.ensures in
    let k = c.self.invariant in
    let new = next_placed (sizes_in i.store) t x (numbered t.actors c.args.actor.0) c.size-size.result (sym c.size-size.ensures.size) (is_mappable t x (numbered t.actors c.args.actor.0) c.size-size.result (sym c.map_refusal.ensures ∙ c.in_default.is)) in
    acted_sound i.store t c.map.new.self i.actors i.actors k (page (goal.at.invariant_of-self c).After-map)
    (after_either (λ (u : Actors). i.actors ≡ length u.actors) t c.map.new.self (with_region t c.args.actor.0 x) c.map.result e.ok e.err
    (k.counted ∙ sym (length-set t.actors (c.args.actor.0 - 1) (option_map (insert_region (next_region t x)) (numbered t.actors c.args.actor.0)))) k.counted)
    (after_either (AreRight (sizes_in i.store)) t c.map.new.self (with_region t c.args.actor.0 x) c.map.result e.ok e.err (right_mapped (sizes_in i.store) t c.args.actor.0 x new k.placed) k.placed)

pub invariant_of-self-2 : goal.invariant_of-self-2
invariant_of-self-2 c =
    let i = c.self.inside in
    let t = i.contexts in
    let x = c.args.mapping in
    let e = c.map.ensures in
    let k = c.self.invariant in
    let new = next_placed (sizes_in i.store) t x (numbered t.actors c.args.actor.0) c.size-size.result (sym c.size-size.ensures.size) (is_mappable t x (numbered t.actors c.args.actor.0) c.size-size.result (sym c.map_refusal.ensures ∙ c.in_default.is)) in
    acted_sound i.store t c.map.new.self i.actors i.actors k (page (goal.at.invariant_of-self-2 c).After-map)
    (after_either (λ (u : Actors). i.actors ≡ length u.actors) t c.map.new.self (with_region t c.args.actor.0 x) c.map.result e.ok e.err
    (k.counted ∙ sym (length-set t.actors (c.args.actor.0 - 1) (option_map (insert_region (next_region t x)) (numbered t.actors c.args.actor.0)))) k.counted)
    (after_either (AreRight (sizes_in i.store)) t c.map.new.self (with_region t c.args.actor.0 x) c.map.result e.ok e.err (right_mapped (sizes_in i.store) t c.args.actor.0 x new k.placed) k.placed)

pub returns : goal.returns
returns c =
    let i = c.self.inside in
    let t = i.contexts in
    let x = c.args.mapping in
    let n = c.args.actor.0 in
    let caches = caches_in i.store in
    let k : IsMappable t (numbered t.actors n) (size_in (numbered caches x.extent.cache.0)) x =
    is_mappable t x (numbered t.actors n) (size_in (numbered caches x.extent.cache.0)) (ap (λ (q : Option ℕ). map_refusal t (numbered t.actors n) q x) (size (goal.at.returns c).After-size-size) ∙ sym c.map_refusal.ensures ∙ c.in_default.is) in
    let row = map_row t x caches i.store.frames n k in
    acted i.store t i.actors c.self.invariant c.args.self.now c.self.view_is (commands.Map c.args.actor x) (record { reaches = refl; needs = λ m next. refl; said = λ m h a. tt }) (Ok (replies.Region c.in_ok-map.field-0)) c.map.new.self (page (goal.at.returns c).After-map)
    (λ h. row ∙ (λ j. reply (replies.Region (record { 0 = sym c.in_ok-map.ensures.number j })) (machine_with caches i.store.frames (sym c.in_ok-map.ensures.ok j))))

pub returns-in_err-map : goal.returns-in_err-map
returns-in_err-map c =
    let i = c.self.inside in
    let t = i.contexts in
    let x = c.args.mapping in
    let n = c.args.actor.0 in
    let caches = caches_in i.store in
    let k : IsMappable t (numbered t.actors n) (size_in (numbered caches x.extent.cache.0)) x =
    is_mappable t x (numbered t.actors n) (size_in (numbered caches x.extent.cache.0)) (ap (λ (q : Option ℕ). map_refusal t (numbered t.actors n) q x) (size (goal.at.returns-in_err-map c).After-size-size) ∙ sym c.map_refusal.ensures ∙ c.in_default.is) in
    let row = map_row t x caches i.store.frames n k in
    rw (err_is c.from_residual.result _ c.from_residual.ensures.1)
    (acted i.store t i.actors c.self.invariant c.args.self.now c.self.view_is (commands.Map c.args.actor x) (record { reaches = refl; needs = λ m next. refl; said = λ m h a. tt }) (Err troubles.Memory) c.map.new.self (page (goal.at.returns-in_err-map c).After-map)
    (λ h. (ap (machine_with caches i.store.frames) c.in_err-map.ensures.err, tt, (let line = row in rw line tt))))
