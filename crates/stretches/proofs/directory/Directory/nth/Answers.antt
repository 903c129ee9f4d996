use Rattle.std.proofs.Common.{◌≡◌, suc, ◌-◌, ◌<◌, ◌≤◌, List, [], length, get_or, refl, sym, ap, subst, ◌∙◌, add-one, arith}
use Rattle.std.proofs.lemmas.Option.{slice_get_past, slice_get_read}
use Rattle.stretches.specs.Leaves.{Leaves, flat}
use Rattle.stretches.specs.Spots.{index_at}
use Rattle.stretches.proofs.Leaves.Entries.{get_flat}
use Rattle.stretches.proofs.Leaves.Indexes.{index_first, index_later, index_past, index_within}
use Rattle.stretches.proofs.directory.Directory.nth.Goals as goal

pub loop-leaf-init : goal.loop-leaf-init
loop-leaf-init g c = index_first c.args.self.now.lists c.args.index

pub returns-then-ahead-entries : goal.returns-then-ahead-entries
returns-then-ahead-entries g c =
    let ls = c.args.self.now.lists in
    let j = c.loop-leaf.leaf in
    let k = c.loop-leaf.ahead in
    let x = c.index-entries-ahead.result in
    let lists = ap (λ (q : Leaves _). q.lists) c.self.view_is in
    let leaf : c.leaf-entries.result.now ≡ get_or ls j [] = c.leaf-entries.ensures.entries ∙ ap (λ (q : List (List _)). get_or q j []) lists in
    let less : j < length ls = omega (arith, c.loop-leaf-test.true, ap length lists, c.len-leaf-end.ensures) in
    let inside : k < length (get_or ls j []) = omega (arith, c.if-ahead-entries.true, ap length leaf) in
    let here : x ≡ get_or (flat ls) (index_at ls j k) x = c.index-entries-ahead.is ∙ ap (λ (q : List _). get_or q k x) leaf ∙ sym (get_flat ls j k x less inside) in
    sym (slice_get_read (flat ls) (length (flat ls)) c.args.index x refl (subst (λ i. i < length (flat ls)) c.loop-leaf.invariant (index_within ls j k less inside))
    (subst (λ i. x ≡ get_or (flat ls) i x) c.loop-leaf.invariant here))

pub loop-leaf-preserved : goal.loop-leaf-preserved
loop-leaf-preserved g c =
    let ls = c.args.self.now.lists in
    let j = c.loop-leaf.leaf in
    let k = c.loop-leaf.ahead in
    let lists = ap (λ (q : Leaves _). q.lists) c.self.view_is in
    let leaf : c.leaf-entries.result.now ≡ get_or ls j [] = c.leaf-entries.ensures.entries ∙ ap (λ (q : List (List _)). get_or q j []) lists in
    let far : length (get_or ls j []) ≤ k = omega (arith, c.if-ahead-entries.false, ap length leaf) in
    ap (λ q. index_at ls q (k - length c.leaf-entries.result.now)) (add-one j)
    ∙ ap (λ (q : List _). index_at ls (suc j) (k - length q)) leaf
    ∙ index_later ls j k far
    ∙ c.loop-leaf.invariant

pub returns : goal.returns
returns g c =
    let ls = c.args.self.now.lists in
    let lists = ap (λ (q : Leaves _). q.lists) c.self.view_is in
    sym (slice_get_past (flat ls) c.args.index (subst (λ i. length (flat ls) ≤ i) c.loop-leaf.invariant
    (index_past ls c.loop-leaf.leaf c.loop-leaf.ahead (omega (arith, c.loop-leaf-test.false, ap length lists, c.len-leaf-end.ensures)))))
