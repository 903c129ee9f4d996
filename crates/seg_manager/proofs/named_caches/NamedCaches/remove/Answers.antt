use Rattle.std.proofs.Common.{◌==◌, Some, None, cond, ap, sym, subst, ◌∙◌, arith}
use Rattle.std.specs.Prelude.{filter, not}
use Rattle.std.specs.List.{position_from}
use Rattle.std.proofs.lemmas.Option.{slice_get-get_or}
use Rattle.seg_manager.specs.Inner.{first_with}
use Rattle.seg_manager.specs.Names.{AreIndexed}
use Rattle.seg_manager.proofs.Lookup.Finding.{place_below}
use Rattle.seg_manager.proofs.Lookup.Named.{cache_less, named_less, others_none, others_there, with_at}
use Rattle.seg_manager.proofs.named_caches.NamedCaches.remove.Goals as goal

pub remove-named-requires : goal.remove-named-requires
remove-named-requires c = omega (arith, place_below (first_with c.args.cache.0) c.deref.result.now c.self.inside.list.items c.in-Some.place c.deref.ensures.value c.in-Some.ensures, c.self.inside.list.ok)

pub invariant_of-self : goal.invariant_of-self
invariant_of-self c =
    let within = place_below (first_with c.args.cache.0) c.deref.result.now c.self.inside.list.items c.in-Some.place c.deref.ensures.value c.in-Some.ensures in
    let there = slice_get-get_or c.self.inside.list.items c.in-Some.place c.remove-named.result within ∙ ap (λ x. Some x) (sym c.remove-named.ensures.value) in
    let it = with_at c.args.cache.0 c.self.inside.list.items c.in-Some.place c.remove-named.result (ap (position_from (first_with c.args.cache.0) 0) (sym c.deref.ensures.value) ∙ sym c.in-Some.ensures) there in
    subst (λ cs. AreIndexed cs c.remove.new.self.entries)
    (sym (c.remove-named.ensures.items ∙ others_there c.args.cache.0 c.self.inside.list.items c.in-Some.place c.remove-named.result c.self.invariant.named there it.1))
    (record {
      named = named_less (λ d. not (first_with c.args.cache.0 d)) c.self.inside.list.items c.self.invariant.named;
      found = λ seg.
          c.remove.ensures.updates.0 seg
          ∙ ap (cond (c.remove-named.result.seg.0 == seg) None) (c.self.invariant.found seg)
          ∙ sym (cache_less c.args.cache.0 c.self.inside.list.items c.in-Some.place c.remove-named.result seg c.self.invariant.named there it.1);
    })

pub returns-in-Some-clause-items : goal.returns-in-Some-clause-items
returns-in-Some-clause-items c =
    let within = place_below (first_with c.args.cache.0) c.deref.result.now c.self.inside.list.items c.in-Some.place c.deref.ensures.value c.in-Some.ensures in
    let there = slice_get-get_or c.self.inside.list.items c.in-Some.place c.remove-named.result within ∙ ap (λ x. Some x) (sym c.remove-named.ensures.value) in
    let it = with_at c.args.cache.0 c.self.inside.list.items c.in-Some.place c.remove-named.result (ap (position_from (first_with c.args.cache.0) 0) (sym c.deref.ensures.value) ∙ sym c.in-Some.ensures) there in
    c.remove-named.ensures.items
    ∙ others_there c.args.cache.0 c.self.inside.list.items c.in-Some.place c.remove-named.result c.self.invariant.named there it.1
    ∙ ap (λ n. filter (λ d. not (first_with c.args.cache.0 d)) n.items) c.self.view_is

pub returns-in_default-clause-items : goal.returns-in_default-clause-items
returns-in_default-clause-items c =
    ap (λ n. n.items) (sym c.self.view_is)
    ∙ others_none c.args.cache.0 c.self.inside.list.items (c.in_default.ensures ∙ ap (position_from (first_with c.args.cache.0) 0) c.deref.ensures.value)
    ∙ ap (λ n. filter (λ d. not (first_with c.args.cache.0 d)) n.items) c.self.view_is
