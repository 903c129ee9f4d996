use Rattle.std.proofs.Common.{Some, ap, sym, ◌∙◌, arith}
use Rattle.std.specs.List.{position_from}
use Rattle.std.proofs.lemmas.Option.{slice_get-get_or}
use Rattle.seg_manager.specs.Inner.{first_with, named_with}
use Rattle.seg_manager.proofs.Lookup.Finding.{place_below}
use Rattle.seg_manager.proofs.Lookup.Named.{with_none, with_at}
use Rattle.seg_manager.proofs.named_caches.NamedCaches.named_with.Goals as goal

pub index-requires : goal.index-requires
index-requires c = omega (arith, place_below (first_with c.args.cache.0) c.deref.result.now c.self.inside.list.items c.in-Some.place c.deref.ensures.value c.in-Some.ensures, c.self.inside.list.ok)

pub returns-in-Some : goal.returns-in-Some
returns-in-Some c =
    let within = place_below (first_with c.args.cache.0) c.deref.result.now c.self.inside.list.items c.in-Some.place c.deref.ensures.value c.in-Some.ensures in
    let there = slice_get-get_or c.self.inside.list.items c.in-Some.place c.index.result.now within ∙ ap (λ x. Some x) (sym c.index.ensures) in
    let it = with_at c.args.cache.0 c.self.inside.list.items c.in-Some.place c.index.result.now (ap (position_from (first_with c.args.cache.0) 0) (sym c.deref.ensures.value) ∙ sym c.in-Some.ensures) there in
    sym it.0 ∙ ap (λ n. named_with c.args.cache.0 n.items) c.self.view_is

pub returns-in-None : goal.returns-in-None
returns-in-None c =
    sym (with_none c.args.cache.0 c.self.inside.list.items 0 (ap (position_from (first_with c.args.cache.0) 0) (sym c.deref.ensures.value) ∙ sym c.in-None.ensures)) ∙ ap (λ n. named_with c.args.cache.0 n.items) c.self.view_is
