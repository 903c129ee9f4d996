use Rattle.std.proofs.Common.{◌≡◌, ℕ, suc, ◌<◌, ◌≤◌, List, [], length, get_or, sym, subst, ◌∙◌, arith}
use Rattle.std.proofs.lemmas.Bool.{leb-false, leb-true}
use Rattle.stretches.specs.Places.{first_key}
use Rattle.stretches.proofs.searching.leaf_for.Goals as goal

pub loop-leaf-preserved-then-begins_by : goal.loop-leaf-preserved-then-begins_by
loop-leaf-preserved-then-begins_by g c =
    let kept = c.loop-leaf.invariant in
    record {
      ordered = omega (arith, c.loop-leaf-test.true);
      within = kept.within;
      before = λ some. subst (λ (l : List _). first_key g.T.Keyed.key l ≤ c.args.number) c.leaf.ensures (leb-true _ _ (sym c.begins_by.ensures ∙ c.if-begins_by.true));
      next = kept.next;
    }

pub loop-leaf-preserved : goal.loop-leaf-preserved
loop-leaf-preserved g c =
    let kept = c.loop-leaf.invariant in
    record {
      ordered = omega (arith, c.loop-leaf-test.true);
      within = omega (arith, kept.within, c.loop-leaf-test.true);
      before = kept.before;
      next = λ less. subst (λ (l : List _). c.args.number < first_key g.T.Keyed.key l) c.leaf.ensures (leb-false _ _ (sym c.begins_by.ensures ∙ c.if-begins_by.false));
    }

pub returns : goal.returns
returns g c =
    let ls = c.args.list.now.lists in
    let kept = c.loop-leaf.invariant in
    let next : c.loop-leaf.behind ≡ suc c.loop-leaf.leaf = omega (arith, kept.ordered, c.loop-leaf-test.false) in
    record {
      within = omega (arith, kept.ordered, kept.within);
      before = kept.before;
      behind = λ less. subst (λ (j : ℕ). c.args.number < first_key g.T.Keyed.key (get_or ls j [])) next (kept.next (subst (λ (j : ℕ). j < length ls) (sym next) less));
    }
