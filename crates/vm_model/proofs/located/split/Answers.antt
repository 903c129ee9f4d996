use Rattle.std.proofs.result.Match.{err_is}
use Rattle.std.proofs.Common.{◌≡◌, ◌∷◌, [], ℕ, ◌+◌, ◌<◌, ◌≤◌, true, false, refl, ap, sym, arith}
use Rattle.std.specs.Prelude.{nat_le}
use Rattle.std.proofs.lemmas.Bool.Decides.{nat_tests}
use Rattle.std.proofs.lemmas.List.Elements.{All-cons, All-nil}
use Rattle.vm_ids.specs.declared.reply.Reply.TheVariants as replies
use Rattle.vm_model.specs.declared.limits.TheConstants.{MOST_MADE}
use Rattle.vm_model.specs.Answering.{split_of, reply, unless, with_some}
use Rattle.vm_model.specs.Regions.{split_at}
use Rattle.vm_model.specs.Seen.{IsPlaced, machine_seen}
use Rattle.vm_model.proofs.Locating.{located_placed, seen_replaced, sound_kept, sound_replaced, with_is}
use Rattle.vm_model.proofs.located.split.Goals as goal

reaches : (a b : ℕ) → a ≤ b → nat_le a b ≡ true
reaches a b h = grind (arith, nat_tests)

fewer : (a b : ℕ) → b < a → nat_le a b ≡ false
fewer a b h = grind (arith, nat_tests)

pub returns-then-located-pages-clause-outcome : goal.returns-then-located-pages-clause-outcome
unfolding split_of with_some unless
returns-then-located-pages-clause-outcome c = λ h.
    let t = c.args.tables.now in
    let l = c.in-Some.located in
    let there = with_is c.args.region.0 t.actors.items l c.in-Some.ensures in
    let past = reaches l.region.pages c.args.pages c.if-located-pages.true in
    rw (there, past) refl

pub returns-then-tables-ge-MOST_MADE-clause-outcome : goal.returns-then-tables-ge-MOST_MADE-clause-outcome
unfolding split_of with_some unless
returns-then-tables-ge-MOST_MADE-clause-outcome c = λ h.
    let t = c.args.tables.now in
    let l = c.in-Some.located in
    let there = with_is c.args.region.0 t.actors.items l c.in-Some.ensures in
    let inside = fewer l.region.pages c.args.pages c.if-located-pages.false in
    let many = reaches MOST_MADE t.regions_made c.if-tables-ge-MOST_MADE.true in
    rw (there, inside, many) refl

pub parts_of-requires-clause-placed : goal.parts_of-requires-clause-placed
parts_of-requires-clause-placed c = located_placed c.args.region.0 c.args.tables.now c.in-Some.located c.in-Some.ensures c.requires

pub returns-in_err-divide-clause-outcome : goal.returns-in_err-divide-clause-outcome
unfolding split_of with_some unless
returns-in_err-divide-clause-outcome c = λ h.
    let t = c.args.tables.now in
    let l = c.in-Some.located in
    let there = with_is c.args.region.0 t.actors.items l c.in-Some.ensures in
    let inside = fewer l.region.pages c.args.pages c.if-located-pages.false in
    let few = fewer MOST_MADE t.regions_made c.if-tables-ge-MOST_MADE.false in
    rw (err_is c.from_residual.result _ c.from_residual.ensures.1) (ap (λ xs. record (machine_seen t) { actors = xs }) c.in_err-divide.ensures.err, tt, rw (there, inside, few) tt)

pub returns-in_err-divide-clause-sound : goal.returns-in_err-divide-clause-sound
returns-in_err-divide-clause-sound c = sound_kept c.args.tables.now c.divide.new.actors c.in_err-divide.ensures.err (c.in_err-divide.ensures.placed _ _ c.requires.placed) c.requires

pub returns-clause-sound : goal.returns-clause-sound
returns-clause-sound c =
    let t = c.args.tables.now in
    let front = c.parts_of.result.0 in
    let back = c.parts_of.result.1 in
    let P = IsPlaced t.page_bytes t.caches.items in
    sound_replaced c.args.region.0 t c.in-Some.located c.in-Some.ensures c.requires (front ∷ back ∷ []) c.divide.new.actors (t.regions_made + 1) c.in_ok-divide.ensures.ok
    (All-cons P front (back ∷ []) c.parts_of.ensures.front (All-cons P back [] c.parts_of.ensures.back (All-nil P)))

pub returns-clause-outcome : goal.returns-clause-outcome
unfolding split_of with_some unless
returns-clause-outcome c = λ h.
    let t = c.args.tables.now in
    let n = c.args.region.0 in
    let l = c.in-Some.located in
    let here = c.in-Some.ensures in
    let front = c.parts_of.result.0 in
    let back = c.parts_of.result.1 in
    let there = with_is n t.actors.items l here in
    let inside = fewer l.region.pages c.args.pages c.if-located-pages.false in
    let few = fewer MOST_MADE t.regions_made c.if-tables-ge-MOST_MADE.false in
    let fresh = t.regions_made + 1 in
    let next = seen_replaced n t l here c.requires (front ∷ back ∷ []) c.divide.new.actors fresh c.in_ok-divide.ensures.ok (split_at t.page_bytes c.args.pages fresh) (sym c.parts_of.ensures.parts) in
    rw (there, inside, few) (ap (reply (replies.Region (record { 0 = fresh }))) (sym next))
