use Rattle.std.proofs.Common.{refl, sym, subst, arith}
use Rattle.std.proofs.lemmas.Option.{get_or_from_slice_get}
use Rattle.seg_manager.specs.Inner.{Closes, first_of}
use Rattle.seg_manager.proofs.Lookup.Finding.{closes, none_left, not_noted, place_below}
use Rattle.seg_manager.proofs.manager.SegManager.close.Goals as goal

pub returns-in_default-clause-closed : goal.returns-in_default-clause-closed
returns-in_default-clause-closed g c = (refl, not_noted c.args.self.now.caches.items c.args.self.now.caches.items c.args.seg.0 refl c.in_default.ensures)

pub at-named-requires : goal.at-named-requires
at-named-requires g c = place_below (first_of c.args.seg.0) c.args.self.now.caches.items c.args.self.now.caches.items c.in-Some.place refl c.in-Some.ensures

pub returns-then-named-eq0-clause-closed : goal.returns-then-named-eq0-clause-closed
returns-then-named-eq0-clause-closed g c = (
  refl,
  none_left c.args.self.now.caches.items c.args.self.now.caches.items c.args.seg c.in-Some.place c.at-named.result refl c.in-Some.ensures
      (sym (get_or_from_slice_get c.args.self.now.caches.items c.in-Some.place c.at-named.result c.at-named.result c.at-named.ensures)) c.if-named-eq0.true,
)

pub set_openings-requires : goal.set_openings-requires
set_openings-requires g c = place_below (first_of c.args.seg.0) c.args.self.now.caches.items c.args.self.now.caches.items c.in-Some.place refl c.in-Some.ensures

pub returns-clause-closed : goal.returns-clause-closed
returns-clause-closed g c =
    let is = sym (get_or_from_slice_get c.args.self.now.caches.items c.in-Some.place c.at-named.result c.at-named.result c.at-named.ensures) in
    subst (Closes c.args.self.now.caches.items c.args.seg c.at-named.result.cache) (sym (c.set_openings.ensures.items c.at-named.result c.at-named.ensures))
    (closes c.args.self.now.caches.items c.args.self.now.caches.items c.args.seg c.in-Some.place c.at-named.result refl c.in-Some.ensures is c.at-named.result is (omega (arith, c.if-named-eq0.false)))
