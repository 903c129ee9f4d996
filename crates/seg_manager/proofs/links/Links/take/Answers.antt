use Rattle.std.proofs.Common.{◌≡◌, ◌≢◌, ◌-◌, ◌<◌, Some, None, arith, ap, sym, refl, ◌∙◌, length, cond, ◌==◌, inl, inr}
use Rattle.std.specs.Prelude.{slice_get, vec_len}
use Rattle.std.specs.FinMap as map
use Rattle.std.proofs.lemmas.Bool.{cases_eq}
use Rattle.std.proofs.lemmas.Option.{slice_get-get_or}
use Rattle.seg_manager.specs.Linked.{link_of}
use Rattle.seg_manager.proofs.Lookup.Placed.{found_at, links_less, moved_gone, moved_here, moved_same, named_at, one_number, place_within, placed_less, read_at, remove_other, remove_same}
use Rattle.seg_manager.proofs.links.Links.take.Goals as goal

pub overflow_sub-last : goal.overflow_sub-last
overflow_sub-last c = omega (arith, place_within c.self.inside.links.items c.self.inside.index.places c.self.inside.room c.self.invariant.2 c.args.cache.0 c.in_ok-place.place (sym c.in_ok-place.ensures), c.len-last.ensures, c.self.inside.links.ok)

pub swap_remove-requires : goal.swap_remove-requires
swap_remove-requires c = omega (arith, place_within c.self.inside.links.items c.self.inside.index.places c.self.inside.room c.self.invariant.2 c.args.cache.0 c.in_ok-place.place (sym c.in_ok-place.ensures), c.len-last.ensures, c.self.inside.links.ok)

-- the link was the last one
pub invariant_of-self : goal.invariant_of-self
invariant_of-self c =
    let placed : map.get c.self.inside.index.places c.args.cache.0 ≡ Some (c.len-last.result - 1) = sym c.in_ok-place.ensures ∙ ap (λ n. Some n) c.if-place-last.true in
    let there = read_at c.self.inside.links.items c.self.inside.index.places c.self.inside.room c.self.invariant.2 c.args.cache.0 (c.len-last.result - 1) c.swap_remove.result placed c.swap_remove.ensures.value in
    let last : slice_get c.self.inside.links.items (vec_len c.self.inside.links - 1) ≡ Some c.swap_remove.result = ap (λ n. slice_get c.self.inside.links.items (n - 1)) (sym c.len-last.ensures) ∙ there in (
      omega (arith, c.self.invariant.0, ap (λ e. e.room) c.leave.ensures),
      omega (arith, c.self.invariant.1, c.swap_remove.ensures.capacity),
      placed_less c.self.inside.links.items c.self.inside.index.places c.self.inside.room c.self.invariant.2 c.args.cache.0 (c.len-last.result - 1) (vec_len c.self.inside.links) (omega (arith, c.self.inside.links.ok)) c.swap_remove.result c.swap_remove.new.self.items c.leave.new.self.places placed
          last (omega (arith, c.swap_remove.ensures.len, c.swap_remove.new.self.ok)) c.swap_remove.ensures.by_index.0 c.swap_remove.ensures.by_index.1
          (ap (λ e. map.get e.places c.args.cache.0) c.leave.ensures ∙ remove_same c.self.inside.index.places c.args.cache.0 c.args.cache.0 refl)
          (λ apart. absurd (apart (named_at c.self.inside.links.items c.self.inside.index.places c.self.inside.room c.self.invariant.2 c.args.cache.0 (c.len-last.result - 1) c.swap_remove.result placed there)))
          (λ m off other. ap (λ e. map.get e.places m) c.leave.ensures ∙ remove_other c.self.inside.index.places c.args.cache.0 m off),
    )

pub returns-then-place-last-clause-link : goal.returns-then-place-last-clause-link
returns-then-place-last-clause-link c =
    let placed : map.get c.self.inside.index.places c.args.cache.0 ≡ Some (c.len-last.result - 1) = sym c.in_ok-place.ensures ∙ ap (λ n. Some n) c.if-place-last.true in
    found_at c.self.inside.links.items c.self.inside.index.places c.self.inside.room c.self.invariant.2 c.args.cache.0 (c.len-last.result - 1) c.swap_remove.result placed c.swap_remove.ensures.value ∙ ap (λ l. link_of l c.args.cache.0) c.self.view_is

pub returns-then-place-last-clause-links : goal.returns-then-place-last-clause-links
returns-then-place-last-clause-links c = λ n.
    let placed : map.get c.self.inside.index.places c.args.cache.0 ≡ Some (c.len-last.result - 1) = sym c.in_ok-place.ensures ∙ ap (λ n. Some n) c.if-place-last.true in
    let there = read_at c.self.inside.links.items c.self.inside.index.places c.self.inside.room c.self.invariant.2 c.args.cache.0 (c.len-last.result - 1) c.swap_remove.result placed c.swap_remove.ensures.value in
    let last : slice_get c.self.inside.links.items (vec_len c.self.inside.links - 1) ≡ Some c.swap_remove.result = ap (λ n. slice_get c.self.inside.links.items (n - 1)) (sym c.len-last.ensures) ∙ there in
    links_less c.self.inside.links.items c.self.inside.index.places c.self.inside.room c.self.invariant.2 c.args.cache.0 (c.len-last.result - 1) (vec_len c.self.inside.links) (omega (arith, c.self.inside.links.ok)) c.swap_remove.result c.swap_remove.new.self.items c.leave.new.self.places placed
    last (omega (arith, c.swap_remove.ensures.len, c.swap_remove.new.self.ok)) c.swap_remove.ensures.by_index.0 c.swap_remove.ensures.by_index.1
    (ap (λ e. map.get e.places c.args.cache.0) c.leave.ensures ∙ remove_same c.self.inside.index.places c.args.cache.0 c.args.cache.0 refl)
    (λ apart. absurd (apart (named_at c.self.inside.links.items c.self.inside.index.places c.self.inside.room c.self.invariant.2 c.args.cache.0 (c.len-last.result - 1) c.swap_remove.result placed there)))
    (λ m off other. ap (λ e. map.get e.places m) c.leave.ensures ∙ remove_other c.self.inside.index.places c.args.cache.0 m off) n
    ∙ ap (λ l. cond (c.args.cache.0 == n) None (link_of l n)) c.self.view_is

-- the last one takes its place
pub index-requires : goal.index-requires
index-requires c = omega (arith, place_within c.self.inside.links.items c.self.inside.index.places c.self.inside.room c.self.invariant.2 c.args.cache.0 c.in_ok-place.place (sym c.in_ok-place.ensures), c.len-last.ensures, c.self.inside.links.ok)

pub leave-requires-2 : goal.leave-requires-2
leave-requires-2 c =
    let within : c.len-last.result - 1 < length c.self.inside.links.items = omega (arith, place_within c.self.inside.links.items c.self.inside.index.places c.self.inside.room c.self.invariant.2 c.args.cache.0 c.in_ok-place.place (sym c.in_ok-place.ensures), c.len-last.ensures, c.self.inside.links.ok) in
    let there = slice_get-get_or c.self.inside.links.items (c.len-last.result - 1) c.index.result.now within ∙ ap (λ x. Some x) (sym c.index.ensures) in
    let at = c.self.invariant.2.at (c.len-last.result - 1) c.index.result.now there in
    let apart : c.index.result.now.kept.cache.0 ≢ c.args.cache.0 = λ e. c.if-place-last.false (let two : Some c.in_ok-place.place ≡ Some (c.len-last.result - 1) = c.in_ok-place.ensures ∙ ap (map.get c.self.inside.index.places) (sym e) ∙ at in cc two) in
    ap (λ e. map.get e.places c.index.result.now.kept.cache.0) c.leave.ensures ∙ remove_other c.self.inside.index.places c.args.cache.0 c.index.result.now.kept.cache.0 apart ∙ at

pub enter-requires-clause-new_key : goal.enter-requires-clause-new_key
enter-requires-clause-new_key c =
    ap (λ e. map.get e.places c.index.result.now.kept.cache.0) c.leave-2.ensures ∙ remove_same c.leave.new.self.places c.index.result.now.kept.cache.0 c.index.result.now.kept.cache.0 refl

pub enter-requires-clause-free : goal.enter-requires-clause-free
enter-requires-clause-free c = λ other e. elim (cases_eq other c.index.result.now.kept.cache.0) [
  | inl is ↦
      (let wrong : None ≡ Some c.in_ok-place.place = sym (ap (λ x. map.get x.places other) c.leave-2.ensures ∙ remove_same c.leave.new.self.places c.index.result.now.kept.cache.0 other is) ∙ e in cc wrong)
  | inr off ↦
      (let then : map.get c.leave.new.self.places other ≡ Some c.in_ok-place.place = sym (ap (λ x. map.get x.places other) c.leave-2.ensures ∙ remove_other c.leave.new.self.places c.index.result.now.kept.cache.0 other off) ∙ e in
      elim (cases_eq other c.args.cache.0) [
        | inl is ↦
            (let wrong : None ≡ Some c.in_ok-place.place = sym (ap (λ x. map.get x.places other) c.leave.ensures ∙ remove_same c.self.inside.index.places c.args.cache.0 other is) ∙ then in cc wrong)
        | inr apart ↦
            apart (one_number c.self.inside.links.items c.self.inside.index.places c.self.inside.room c.self.invariant.2 other c.args.cache.0 c.in_ok-place.place (sym (ap (λ x. map.get x.places other) c.leave.ensures ∙ remove_other c.self.inside.index.places c.args.cache.0 other apart) ∙ then) (sym c.in_ok-place.ensures))
      ])
]

pub enter-requires-clause-room : goal.enter-requires-clause-room
enter-requires-clause-room c =
    omega (arith, place_within c.self.inside.links.items c.self.inside.index.places c.self.inside.room c.self.invariant.2 c.args.cache.0 c.in_ok-place.place (sym c.in_ok-place.ensures), c.self.invariant.0, c.self.invariant.2.few, ap (λ e. e.room) c.leave.ensures, ap (λ e. e.room) c.leave-2.ensures)

pub swap_remove-requires-2 : goal.swap_remove-requires-2
swap_remove-requires-2 c = omega (arith, place_within c.self.inside.links.items c.self.inside.index.places c.self.inside.room c.self.invariant.2 c.args.cache.0 c.in_ok-place.place (sym c.in_ok-place.ensures), c.self.inside.links.ok)

pub invariant_of-self-2 : goal.invariant_of-self-2
invariant_of-self-2 c =
    let within : c.len-last.result - 1 < length c.self.inside.links.items = omega (arith, place_within c.self.inside.links.items c.self.inside.index.places c.self.inside.room c.self.invariant.2 c.args.cache.0 c.in_ok-place.place (sym c.in_ok-place.ensures), c.len-last.ensures, c.self.inside.links.ok) in
    let there = slice_get-get_or c.self.inside.links.items (c.len-last.result - 1) c.index.result.now within ∙ ap (λ x. Some x) (sym c.index.ensures) in
    let at = c.self.invariant.2.at (c.len-last.result - 1) c.index.result.now there in
    let apart : c.index.result.now.kept.cache.0 ≢ c.args.cache.0 = λ e. c.if-place-last.false (let two : Some c.in_ok-place.place ≡ Some (c.len-last.result - 1) = c.in_ok-place.ensures ∙ ap (map.get c.self.inside.index.places) (sym e) ∙ at in cc two) in
    let is = ap (λ e. e.places) c.enter.ensures ∙ ap (λ x. map.insert x.places c.index.result.now.kept.cache.0 c.in_ok-place.place) c.leave-2.ensures ∙ ap (λ x. map.insert (map.remove x.places c.index.result.now.kept.cache.0) c.index.result.now.kept.cache.0 c.in_ok-place.place) c.leave.ensures in (
      omega (arith, c.self.invariant.0, ap (λ e. e.room) c.leave.ensures, ap (λ e. e.room) c.leave-2.ensures, ap (λ e. e.room) c.enter.ensures),
      omega (arith, c.self.invariant.1, c.swap_remove-2.ensures.capacity),
      placed_less c.self.inside.links.items c.self.inside.index.places c.self.inside.room c.self.invariant.2 c.args.cache.0 c.in_ok-place.place (vec_len c.self.inside.links) (omega (arith, c.self.inside.links.ok)) c.index.result.now c.swap_remove-2.new.self.items c.enter.new.self.places (sym c.in_ok-place.ensures)
          (ap (λ n. slice_get c.self.inside.links.items (n - 1)) (sym c.len-last.ensures) ∙ there) (omega (arith, c.swap_remove-2.ensures.len, c.swap_remove-2.new.self.ok)) c.swap_remove-2.ensures.by_index.0 c.swap_remove-2.ensures.by_index.1
          (moved_gone c.self.inside.index.places c.enter.new.self.places c.args.cache.0 c.index.result.now.kept.cache.0 c.in_ok-place.place apart is)
          (λ off. moved_here c.self.inside.index.places c.enter.new.self.places c.args.cache.0 c.index.result.now.kept.cache.0 c.in_ok-place.place apart is)
          (moved_same c.self.inside.index.places c.enter.new.self.places c.args.cache.0 c.index.result.now.kept.cache.0 c.in_ok-place.place apart is),
    )

pub returns-clause-link : goal.returns-clause-link
returns-clause-link c =
    found_at c.self.inside.links.items c.self.inside.index.places c.self.inside.room c.self.invariant.2 c.args.cache.0 c.in_ok-place.place c.swap_remove-2.result (sym c.in_ok-place.ensures) c.swap_remove-2.ensures.value ∙ ap (λ l. link_of l c.args.cache.0) c.self.view_is

pub returns-clause-links : goal.returns-clause-links
returns-clause-links c = λ n.
    let within : c.len-last.result - 1 < length c.self.inside.links.items = omega (arith, place_within c.self.inside.links.items c.self.inside.index.places c.self.inside.room c.self.invariant.2 c.args.cache.0 c.in_ok-place.place (sym c.in_ok-place.ensures), c.len-last.ensures, c.self.inside.links.ok) in
    let there = slice_get-get_or c.self.inside.links.items (c.len-last.result - 1) c.index.result.now within ∙ ap (λ x. Some x) (sym c.index.ensures) in
    let at = c.self.invariant.2.at (c.len-last.result - 1) c.index.result.now there in
    let apart : c.index.result.now.kept.cache.0 ≢ c.args.cache.0 = λ e. c.if-place-last.false (let two : Some c.in_ok-place.place ≡ Some (c.len-last.result - 1) = c.in_ok-place.ensures ∙ ap (map.get c.self.inside.index.places) (sym e) ∙ at in cc two) in
    let is = ap (λ e. e.places) c.enter.ensures ∙ ap (λ x. map.insert x.places c.index.result.now.kept.cache.0 c.in_ok-place.place) c.leave-2.ensures ∙ ap (λ x. map.insert (map.remove x.places c.index.result.now.kept.cache.0) c.index.result.now.kept.cache.0 c.in_ok-place.place) c.leave.ensures in
    links_less c.self.inside.links.items c.self.inside.index.places c.self.inside.room c.self.invariant.2 c.args.cache.0 c.in_ok-place.place (vec_len c.self.inside.links) (omega (arith, c.self.inside.links.ok)) c.index.result.now c.swap_remove-2.new.self.items c.enter.new.self.places (sym c.in_ok-place.ensures)
    (ap (λ n. slice_get c.self.inside.links.items (n - 1)) (sym c.len-last.ensures) ∙ there) (omega (arith, c.swap_remove-2.ensures.len, c.swap_remove-2.new.self.ok)) c.swap_remove-2.ensures.by_index.0 c.swap_remove-2.ensures.by_index.1
    (moved_gone c.self.inside.index.places c.enter.new.self.places c.args.cache.0 c.index.result.now.kept.cache.0 c.in_ok-place.place apart is)
    (λ off. moved_here c.self.inside.index.places c.enter.new.self.places c.args.cache.0 c.index.result.now.kept.cache.0 c.in_ok-place.place apart is)
    (moved_same c.self.inside.index.places c.enter.new.self.places c.args.cache.0 c.index.result.now.kept.cache.0 c.in_ok-place.place apart is) n
    ∙ ap (λ l. cond (c.args.cache.0 == n) None (link_of l n)) c.self.view_is
