use Rattle.std.proofs.Common.{sym, ap, subst, ◌∙◌, arith}
use Rattle.local_cache.specs.Reading.{forest_of, name_of}
use Rattle.local_cache.specs.Sound.{IsSound}
use Rattle.local_cache.specs.Changes.{Relinked}
use Rattle.local_cache.proofs.Forest.Reading.{IsNode-forest_of}
use Rattle.page_stubs.proofs.Lists.Room.{room-added, one_more_fits, count_is}
use Rattle.page_stubs.proofs.Lists.Addition.{last_held, adds, forest_is, sound_after}
use Rattle.page_stubs.proofs.adding.add_stub.Goals as goal

pub thread_last-requires-clause-last : goal.thread_last-requires-clause-last
thread_last-requires-clause-last c = let r = c.requires in last_held c.args.caches.now r.sound c.args.d c.args.s r.d r.s r.bare r.apart

pub thread_last-requires-clause-few : goal.thread_last-requires-clause-few
thread_last-requires-clause-few c =
    let r = c.requires in
    let a = c.args.caches.now in
    let fits = one_more_fits (forest_of a) r.sound.linked (name_of a c.args.d) (name_of a c.args.s) (IsNode-forest_of a r.sound.kept.named c.args.d r.d) (ap (λ n. n.hang) r.bare) in
    omega (arith, count_is a r.sound.kept c.args.s r.s, fits, c.counts-all.ensures.few)

pub returns : goal.returns
returns c =
    let r = c.requires in
    let a = c.args.caches.now in
    record {
      forest = ap forest_of c.thread_last.ensures ∙ forest_is a r.sound c.args.d c.args.s r.d r.s r.bare r.apart _ (adds a r.sound c.args.d c.args.s r.d r.s r.bare r.apart);
      sound = subst IsSound (sym c.thread_last.ensures) (sound_after a r.sound c.args.d c.args.s r.d r.s r.bare r.apart _ (adds a r.sound c.args.d c.args.s r.d r.s r.bare r.apart));
      links = subst (Relinked a) (sym c.thread_last.ensures) (adds a r.sound c.args.d c.args.s r.d r.s r.bare r.apart).relinked;
      room = (ap (λ b. b.room) c.thread_last.ensures ∙ room-added c.args.caches.now c.args.d c.args.s _
          );
    }
