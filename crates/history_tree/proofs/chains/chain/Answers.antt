use Rattle.std.proofs.Common.{◌≡◌, List, [], ◌∷◌, ◌++◌, Bool, true, false, is_none, is_ok, IsSome, sym, ap, ◌∙◌, subst, append_assoc}
use Rattle.std.specs.Prelude.{if◌then◌else◌}
use Rattle.vm_ids.specs.declared.chain.ChainItem.{ChainItem}
use Rattle.local_cache.specs.Arena.{cell}
use Rattle.local_cache.specs.Reading.{forest_of, name_of, page_of}
use Rattle.history_tree.specs.Items.{item_for}
use Rattle.history_tree.proofs.Upward.{held_up, shorter, has_parent}
use Rattle.history_tree.proofs.Children.{chain_up, chain_end}
use Rattle.history_tree.proofs.chains.chain.Goals as goal

pushed : (b : Bool) (xs : List ChainItem) (x y : ChainItem) → b ≡ true → x ≡ y → (if b then xs ++ x ∷ [] else xs) ≡ xs ++ y ∷ []
pushed true xs x y e is = ap (λ z. xs ++ z ∷ []) is
pushed false xs x y e is = absurd (cc e)

-- xs with one item of the chain cs more, before the rest of it
one_more : (xs ys cs rest whole : List ChainItem) (x : ChainItem) → ys ≡ xs ++ x ∷ [] → cs ≡ x ∷ rest → xs ++ cs ≡ whole → ys ++ rest ≡ whole
one_more xs ys cs rest whole x e f g = ap (λ us. us ++ rest) e ∙ append_assoc xs (x ∷ []) rest ∙ ap (λ us. xs ++ us) (sym f) ∙ g

-- the last item
the_last : (xs ys cs whole : List ChainItem) (x : ChainItem) → ys ≡ xs ++ x ∷ [] → cs ≡ x ∷ [] → xs ++ cs ≡ whole → ys ≡ whole
the_last xs ys cs whole x e f g = e ∙ ap (λ us. xs ++ us) (sym f) ∙ g

pub loop-items-smaller : goal.loop-items-smaller
loop-items-smaller c =
    let a = c.args.caches.now in
    let bare : is_none (page_of (cell a c.loop-items.at).own) ≡ true = ap (λ s. is_none (page_of s)) (sym c.own_state.ensures) ∙ sym c.is_absent.ensures.page ∙ c.loop-items-test.true in
    shorter a c.requires.sound c.requires.shaped c.loop-items.at c.loop-items.invariant.held c.unwrap-at.result bare (sym c.parent.ensures ∙ c.unwrap-at.ensures)

pub loop-items-preserved : goal.loop-items-preserved
loop-items-preserved c =
    let a = c.args.caches.now in
    let bare : is_none (page_of (cell a c.loop-items.at).own) ≡ true = ap (λ s. is_none (page_of s)) (sym c.own_state.ensures) ∙ sym c.is_absent.ensures.page ∙ c.loop-items-test.true in
    let up : (cell a c.loop-items.at).links.parent ≡ _ = sym c.parent.ensures ∙ c.unwrap-at.ensures in
    let ok : is_ok c.push.result ≡ true = ap is_ok c.in_ok-push.was in
    let items = ◌∙◌ {A = List ChainItem} c.push.ensures.items (pushed _ c.loop-items.items.items c.item_of.result (item_for (forest_of a) (name_of a c.loop-items.at)) ok c.item_of.ensures) in
    record {
      held = held_up a c.requires.sound c.requires.shaped c.loop-items.at c.loop-items.invariant.held c.unwrap-at.result bare up;
      so_far = one_more c.loop-items.items.items _ _ _ _ _ items (chain_up a c.requires.sound c.requires.shaped c.loop-items.at c.loop-items.invariant.held c.unwrap-at.result bare up) c.loop-items.invariant.so_far;
    }

pub unwrap-at-requires : goal.unwrap-at-requires
unwrap-at-requires c =
    let a = c.args.caches.now in
    let bare : is_none (page_of (cell a c.loop-items.at).own) ≡ true = ap (λ s. is_none (page_of s)) (sym c.own_state.ensures) ∙ sym c.is_absent.ensures.page ∙ c.loop-items-test.true in
    subst IsSome (sym c.parent.ensures) (has_parent a c.requires.sound c.requires.shaped c.loop-items.at c.loop-items.invariant.held bare)

pub returns : goal.returns
returns c =
    let a = c.args.caches.now in
    let full : is_none (page_of (cell a c.loop-items.at).own) ≡ false = ap (λ s. is_none (page_of s)) (sym c.own_state.ensures) ∙ sym c.is_absent.ensures.page ∙ c.loop-items-test.false in
    let ok : is_ok c.push-2.result ≡ true = ap is_ok c.in_ok-push-2.was in
    let items = ◌∙◌ {A = List ChainItem} c.push-2.ensures.items (pushed _ c.loop-items.items.items c.item_of-2.result (item_for (forest_of a) (name_of a c.loop-items.at)) ok c.item_of-2.ensures) in
    c.new.ensures ∙ the_last c.loop-items.items.items _ _ _ _ items (chain_end a c.requires.sound c.requires.shaped c.loop-items.at c.loop-items.invariant.held full) c.loop-items.invariant.so_far
