use Rattle.std.proofs.Common.{◌≡◌, ◌<◌, Some, refl, ap, sym, ◌∙◌, length, arith}
use Rattle.std.specs.Prelude.{slice_get, slice_set}
use Rattle.std.proofs.lemmas.Option.{get_or_from_slice_get, slice_get-get_or}
use Rattle.seg_manager.proofs.Lookup.Named.{cache_set, named_set}
use Rattle.seg_manager.proofs.named_caches.NamedCaches.set_openings.Goals as goal

pub invariant_of-self : goal.invariant_of-self
invariant_of-self c =
    let within : c.args.place < length c.self.inside.list.items = omega (arith, c.requires, ap (λ n. length n.items) c.self.view_is) in
    let there = slice_get-get_or c.self.inside.list.items c.args.place c.index_mut.result.now within ∙ ap (λ x. Some x) (sym c.index_mut.ensures.value) in
    record {
      named = named_set c.self.inside.list.items c.args.place c.index_mut.result.now (record c.index_mut.result.now { openings = c.args.openings }) there refl refl c.self.invariant.named;
      found = λ seg. c.self.invariant.found seg ∙ sym (cache_set c.self.inside.list.items c.args.place c.index_mut.result.now (record c.index_mut.result.now { openings = c.args.openings }) seg there refl refl);
    }

pub returns-clause-items : goal.returns-clause-items
returns-clause-items c = λ named e.
    let is : c.index_mut.result.now ≡ named =
    c.index_mut.ensures.value ∙ get_or_from_slice_get c.self.inside.list.items c.args.place named c.index_mut.result.now (ap (λ n. slice_get n.items c.args.place) c.self.view_is ∙ e) in
    (λ i. slice_set (c.self.view_is i).items c.args.place (record (is i) { openings = c.args.openings }))
