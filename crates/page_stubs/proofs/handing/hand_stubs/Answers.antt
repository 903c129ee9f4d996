use Rattle.std.proofs.Common.{◌≡◌, [], false, not, is_some, Option, Some, None, sym, ap, ◌∙◌, refl, subst, arith}
use Rattle.std.proofs.lemmas.Bool.{false≢true}
use Rattle.vm_ids.specs.declared.numbers.NodeId.{NodeId}
use Rattle.local_cache.specs.Reading.{stubs_of, name_of, forest_of}
use Rattle.local_cache.specs.Changes.{Relinked}
use Rattle.local_cache.specs.Sound.{IsSound}
use Rattle.page_stubs.specs.Threading.{IsHeldIf}
use Rattle.page_stubs.proofs.Lists.Room.{both_fit, count_is, room-joined}
use Rattle.page_stubs.proofs.Lists.Joining.{joins, last_held, own_last, own_count, given_count}
use Rattle.page_stubs.proofs.Lists.NoStubs.{no_stubs, none_handed, nothing_joined}
use Rattle.page_stubs.proofs.Rules.Handing.{hands, once_stubs}
use Rattle.page_stubs.proofs.handing.hand_stubs.Goals as goal

pub reparent-requires-clause-once : goal.reparent-requires-clause-once
reparent-requires-clause-once c = let r = c.requires in once_stubs c.args.caches.now r.sound.kept r.sound.linked c.args.from r.from

pub join-requires-clause-last : goal.join-requires-clause-last
join-requires-clause-last c =
    let r = c.requires in
    let a = c.args.caches.now in
    let from_list = r.sound.kept.threaded c.args.from r.from in
    let to_list = r.sound.kept.threaded c.args.to r.to in
    subst (IsHeldIf c.reparent.new.caches) (sym (own_last a _ c.args.from c.args.to r.apart r.from r.to (stubs_of a c.args.from) (stubs_of a c.args.to) from_list to_list c.reparent.ensures))
    (last_held a _ c.args.from c.args.to r.apart r.from r.to (stubs_of a c.args.from) (stubs_of a c.args.to) from_list to_list c.reparent.ensures)

pub join-requires-clause-few : goal.join-requires-clause-few
join-requires-clause-few c =
    let r = c.requires in
    let a = c.args.caches.now in
    let from_list = r.sound.kept.threaded c.args.from r.from in
    let to_list = r.sound.kept.threaded c.args.to r.to in
    let own = own_count a _ c.args.from c.args.to r.apart r.from r.to (stubs_of a c.args.from) (stubs_of a c.args.to) from_list to_list c.reparent.ensures in
    let given = given_count a _ c.args.from c.args.to r.apart r.from r.to (stubs_of a c.args.from) (stubs_of a c.args.to) from_list to_list c.reparent.ensures in
    let fit = both_fit (forest_of a) r.sound.linked (name_of a c.args.from) (name_of a c.args.to) (λ e. r.apart (r.sound.kept.named.apart c.args.to c.args.from r.to r.from e)) in
    omega (arith, own, given, fit, from_list.count, to_list.count, count_is a r.sound.kept c.args.from r.from, count_is a r.sound.kept c.args.to r.to, c.counts-all.ensures.few)

pub returns : goal.returns
returns c =
    let r = c.requires in
    let a = c.args.caches.now in
    record {
      forest = (ap forest_of c.join.ensures ∙ (hands a _ r.sound c.args.from c.args.to r.from r.to r.apart r.clear
          (joins a _ c.args.from c.args.to r.apart r.from r.to (stubs_of a c.args.from) (stubs_of a c.args.to) (r.sound.kept.threaded c.args.from r.from) (r.sound.kept.threaded c.args.to r.to) c.reparent.ensures)).forest);
      sound = (subst IsSound (sym c.join.ensures) (hands a _ r.sound c.args.from c.args.to r.from r.to r.apart r.clear
          (joins a _ c.args.from c.args.to r.apart r.from r.to (stubs_of a c.args.from) (stubs_of a c.args.to) (r.sound.kept.threaded c.args.from r.from) (r.sound.kept.threaded c.args.to r.to) c.reparent.ensures)).sound);
      links = (subst (Relinked a) (sym c.join.ensures)
          (joins a _ c.args.from c.args.to r.apart r.from r.to (stubs_of a c.args.from) (stubs_of a c.args.to) (r.sound.kept.threaded c.args.from r.from) (r.sound.kept.threaded c.args.to r.to) c.reparent.ensures).links);
      room = ap (λ b. b.room) c.join.ensures ∙ room-joined _ c.args.from c.args.to ∙ c.reparent.ensures.room;
    }

none_of : (o : Option NodeId) → is_some o ≡ false → o ≡ None
none_of None e = refl
none_of (Some n) e = absurd (false≢true (sym e))

-- there is no stub to hand over
pub returns-then-is_none-clause-forest : goal.returns-then-is_none-clause-forest
returns-then-is_none-clause-forest c =
    let r = c.requires in
    let a = c.args.caches.now in
    let from = c.args.from in
    let to = c.args.to in
    let first = none_of c.first_stub.result (c.is_none.ensures ∙ ap not c.if-is_none.true) in
    let given = r.sound.kept.threaded from r.from in
    let own = r.sound.kept.threaded to r.to in
    let none : stubs_of a from ≡ [] = no_stubs a from (stubs_of a from) given (sym c.first_stub.ensures ∙ first) in
    let join = joins a a from to r.apart r.from r.to (stubs_of a from) (stubs_of a to) given own (none_handed a (stubs_of a from) to none) in
    sym (ap forest_of (nothing_joined a from to r.from r.to given own none))
    ∙ (hands a _ r.sound from to r.from r.to r.apart r.clear join).forest
