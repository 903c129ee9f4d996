-- A node without stubs, whose list goes to another one.
use Rattle.std.proofs.Common.{◌≡◌, ◌+◌, List, [], ◌∷◌, length, Option, Some, None, unwrap_or, IsSome, refl, sym, ap, subst, ◌∙◌, arith}
use Rattle.std.specs.Option.{option_or}
use Rattle.std.specs.FinMap as map
use Rattle.vm_ids.specs.declared.numbers.NodeId.{NodeId}
use Rattle.local_cache.specs.declared.links.Links.{Links}
use Rattle.local_cache.specs.Arena.{Arena, Cell, blank, cell, put, HasNode, with_links}
use Rattle.local_cache.specs.Reading.{stubs_of}
use Rattle.local_cache.specs.Sound.{◌∈◌}
use Rattle.local_cache.specs.Threads.{IsThreaded, Row, head_or, last_or}
use Rattle.local_cache.proofs.Changes.SameNodes.{relinked_itself}
use Rattle.local_cache.proofs.NodeCells.{inserted_by}
use Rattle.page_stubs.specs.Handing.{Handed}
use Rattle.page_stubs.specs.Threading.{joined, with_before, with_behind, with_ends}

-- A node that gets the links that it has

some_cell : (o : Option Cell) → IsSome o → o ≡ Some (unwrap_or o blank)
some_cell None h = absurd (cc h)
some_cell (Some c) h = refl

put_itself : (a : Arena) (n : NodeId) → HasNode a n → put a n (cell a n) ≡ a
unfolding put cell
put_itself a n h =
    let cells = inserted_by a.cells a.cells n.0 (unwrap_or (map.get a.cells n.0) blank) (some_cell _ h) (λ q other. refl) in
    sym (λ i. record a { cells = cells i })

pub same_links : (a : Arena) (n : NodeId) (l : Links) → HasNode a n → l ≡ (cell a n).links → with_links a n l ≡ a
same_links a n l h e = ap (with_links a n) e ∙ put_itself a n h

-- The steps of the code change nothing

last_behind : (a : Arena) (x : NodeId) (o : Option NodeId) (ys : List NodeId) → Row a x o ys None → (m : NodeId) → last_or ys None ≡ Some m
    → HasNode a m × ((cell a m).links.behind ≡ None)
last_behind a x o [] row m e = absurd (cc e)
last_behind a x o (y ∷ []) row m e =
    let same : y ≡ m = cc e in
    (subst (HasNode a) same row.0.held, subst (λ k. (cell a k).links.behind ≡ None) same row.0.has_behind)
last_behind a x o (y ∷ z ∷ zs) row m e = last_behind a x (Some y) (z ∷ zs) row.1 m e

nothing_behind : (a : Arena) (x : NodeId) (ys : List NodeId) → Row a x None ys None → (o : Option NodeId) → last_or ys None ≡ o → with_behind a o None ≡ a
nothing_behind a x ys row None e = refl
nothing_behind a x ys row (Some m) e =
    let at = last_behind a x None ys row m e in
    same_links a m (record (cell a m).links { behind = None }) at.0 (λ i. record (cell a m).links { behind = sym at.1 i })

or_none : (o : Option NodeId) → option_or o None ≡ o
or_none None = refl
or_none (Some n) = refl

module _ (a : Arena) (from to : NodeId) (hf : HasNode a from) (ht : HasNode a to) (given : IsThreaded a from (stubs_of a from)) (own : IsThreaded a to (stubs_of a to)) (none : stubs_of a from ≡ []) where
  first : (cell a from).links.first ≡ None
  first = given.first ∙ ap (λ ys. head_or ys None) none

  last : (cell a from).links.last ≡ None
  last = given.last ∙ ap (λ ys. last_or ys None) none

  count : (cell a from).links.stubs ≡ 0
  count = given.count ∙ ap length none

  pub nothing_joined : joined a from to ≡ a
  nothing_joined =
      let own_first = (cell a to).links.first in
      let own_last = (cell a to).links.last in
      let stubs = (cell a to).links.stubs in
      let more : stubs + 0 ≡ stubs = omega arith in
      (λ i. with_ends (with_ends (with_before (with_behind a own_last (first i)) (first i) own_last) to (option_or own_first (first i)) (option_or (last i) own_last) (stubs + count i)) from None None 0)
      ∙ ap (λ b. with_ends (with_ends b to (option_or own_first None) own_last (stubs + 0)) from None None 0) (nothing_behind a to (stubs_of a to) own.row own_last (sym own.last))
      ∙ ap (λ b. with_ends b from None None 0) (same_links a to _ ht (λ i. record (cell a to).links { first = or_none own_first i; last = own_last; stubs = more i }))
      ∙ same_links a from _ hf (λ i. record (cell a from).links { first = sym first i; last = sym last i; stubs = sym count i })

-- no stub is handed over
pub none_handed : (a : Arena) (ys : List NodeId) (to : NodeId) → ys ≡ [] → Handed a a ys to
none_handed a ys to e = record {
  relinked = relinked_itself a;
  room = refl;
  done = λ m i. absurd (subst (λ zs. m ∈ zs) e i);
  rest = λ m out. refl;
}

-- a node without a first stub has none
pub no_stubs : (a : Arena) (x : NodeId) (ys : List NodeId) → IsThreaded a x ys → (cell a x).links.first ≡ None → ys ≡ []
no_stubs a x [] t e = refl
no_stubs a x (y ∷ ys) t e = absurd (let clash : Some y ≡ None = sym t.first ∙ e in cc clash)
