use Rattle.std.proofs.Common.{◌≡◌, ◌≢◌, true, [], ◌∷◌, Option, Some, None, is_some, sym, ap, subst, ◌∙◌, arith}
use Rattle.vm_ids.specs.declared.numbers.NodeId.{NodeId}
use Rattle.local_cache.specs.Arena.{Arena, Cell, HasNode, find, hung, with_tree}
use Rattle.local_cache.specs.Many.{HaveNone}
use Rattle.local_cache.specs.OnCells.{working_over}
use Rattle.history_tree.specs.Hanging.{IsPutBetween}
use Rattle.history_tree.proofs.OnCells.{here, put_between_is}
use Rattle.history_tree.proofs.linking.put_between.Goals as goal

none_there : (o : Option Cell) → o ≡ None → is_some o ≡ true → ⊥
none_there None e h = absurd (cc h)
none_there (Some c) e h = absurd (cc e)

put : (a b : Arena) (d s h w : NodeId) → HasNode a s → HaveNone a w 1
    → b ≡ hung (hung (with_tree (working_over a w s h d 1) s (w ∷ [])) d (Some w)) h (Some w) → IsPutBetween a b d s h
put a b d s h w held none e =
    let free : find a w ≡ None = ap (find a) (sym (here w)) ∙ none 0 (omega arith) in
    let apart : w ≢ s = λ same. none_there (find a w) free (subst (HasNode a) (sym same) held) in
    record { working = w; fresh = free; is = e ∙ put_between_is a w s h d apart }

pub returns : goal.returns
returns c =
    let w = c.fresh_working_over-w.result in
    put c.args.caches.now c.hang-2.new.self c.args.d c.args.s c.args.h w c.requires.s c.fresh_working_over-w.ensures.new
    (c.hang-2.ensures.changed ∙ ap (λ (x : Arena). hung x c.args.h (Some w)) (
    c.hang.ensures.changed ∙ ap (λ (x : Arena). hung x c.args.d (Some w)) (
    c.set_tree_children.ensures.changed ∙ ap (λ (x : Arena). with_tree x c.args.s (w ∷ [])) c.fresh_working_over-w.ensures.changed)))
