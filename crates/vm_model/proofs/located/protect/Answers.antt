use Rattle.std.proofs.Common.{◌∷◌, [], refl, ap, sym}
use Rattle.std.proofs.lemmas.List.Elements.{All-cons, All-nil}
use Rattle.vm_ids.specs.declared.reply.Reply.TheVariants as replies
use Rattle.vm_model.specs.Answering.{protect_of, reply, with_some}
use Rattle.vm_model.specs.Regions.{with_prot}
use Rattle.vm_model.specs.Seen.{IsPlaced}
use Rattle.vm_model.specs.declared.tables.Region.{Region}
use Rattle.vm_model.proofs.Locating.{located_placed, seen_replaced, sound_replaced, with_is}
use Rattle.vm_model.proofs.located.protect.Goals as goal

pub returns-clause-sound : goal.returns-clause-sound
returns-clause-sound c =
    let t = c.args.tables.now in
    let n = c.args.region.0 in
    let l = c.in-Some.located in
    let here = c.in-Some.ensures in
    let p = located_placed n t l here c.requires in
    let r : Region = record l.region { may_write = c.args.prot.write } in
    let placed : IsPlaced t.page_bytes t.caches.items r = record { ends = p.ends; cache = p.cache; there = p.there; within = p.within } in
    sound_replaced n t l here c.requires (r ∷ []) c.replace.new.actors t.regions_made c.replace.ensures
    (All-cons (IsPlaced t.page_bytes t.caches.items) r [] placed (All-nil (IsPlaced t.page_bytes t.caches.items)))

pub returns-clause-outcome : goal.returns-clause-outcome
unfolding protect_of with_some
returns-clause-outcome c = λ h.
    let t = c.args.tables.now in
    let n = c.args.region.0 in
    let l = c.in-Some.located in
    let here = c.in-Some.ensures in
    let r : Region = record l.region { may_write = c.args.prot.write } in
    let there = with_is n t.actors.items l here in
    rw there (ap (reply replies.Done) (sym (seen_replaced n t l here c.requires (r ∷ []) c.replace.new.actors t.regions_made c.replace.ensures (with_prot c.args.prot) refl)))
