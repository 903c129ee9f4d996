use Rattle.std.proofs.Common.{◌≡◌, ◌<◌, ◌≤◌, ℕ, List, length, sym, ap, subst, ◌∙◌}
use Rattle.std.specs.Prelude.{slice_get, slice_index_or}
use Rattle.local_cache.specs.Arena.{Cell}
use Rattle.local_cache.proofs.Packing.{child_there, few_there, no_child_there}
use Rattle.local_cache.proofs.runs.single.Single.tree_child.Goals as goal

pub returns-in_err-number : goal.returns-in_err-number
returns-in_err-number c =
    let place = c.args.place in
    let behind : length c.self.inside.children.items ≤ place =
    subst (λ (l : List ℕ). length l ≤ place) c.as_slice.ensures c.in_err-number.ensures.lookup.3 in
    record {
      child = c.from_residual.ensures ∙ sym (no_child_there c.self.inside.children.items place behind)
          ∙ ap (λ (d : Cell). slice_get d.tree place) c.self.view_is;
      few = few_there c.self.inside c.args.self.now c.self.view_is c.self.invariant.few;
    }

pub returns : goal.returns
returns c =
    let place = c.args.place in
    let k = c.in_ok-number.number.now in
    let within : place < length c.self.inside.children.items =
    subst (λ (l : List ℕ). place < length l) c.as_slice.ensures c.in_ok-number.ensures.lookup.3.0 in
    let here : k ≡ slice_index_or c.self.inside.children.items place k =
    subst (λ (l : List ℕ). k ≡ slice_index_or l place k) c.as_slice.ensures c.in_ok-number.ensures.lookup.1 in
    record {
      child = sym (child_there c.self.inside.children.items place k within here)
          ∙ ap (λ (d : Cell). slice_get d.tree place) c.self.view_is;
      few = few_there c.self.inside c.args.self.now c.self.view_is c.self.invariant.few;
    }
