use Rattle.std.proofs.Common.{◌≡◌, List, [], length, get_or, set, sym, ap, subst, ◌∙◌, arith, length-set}
use Rattle.stretches.specs.Leaves.{Leaves, flat}
use Rattle.stretches.specs.Spots.{IsHeld, index_at}
use Rattle.stretches.proofs.Leaves.Entries.{set_flat}
use Rattle.stretches.proofs.Leaves.Indexes.{index_kept, length_kept}
use Rattle.stretches.proofs.Leaves.Keeping.{kept_set}
use Rattle.stretches.proofs.directory.Directory.set.Goals as goal

pub invariant_of-self : goal.invariant_of-self
invariant_of-self g c =
    let i = c.self.inside in
    let spot = c.args.spot in
    let held : IsHeld (record { lists = i.pool.lists; places = i.places }) spot = subst (λ (q : Leaves _). IsHeld q spot) (sym c.self.view_is) c.requires in
    rw (c.set.ensures.lists, c.set.ensures.limit) (kept_set i.pool.lists i.pool.limit i.count i.places c.self.invariant spot.leaf spot.at c.args.entry held.leaf held.at)

pub returns-clause-entries : goal.returns-clause-entries
returns-clause-entries g c =
    let v = c.args.self.now in
    let spot = c.args.spot in
    let lists = ap (λ (q : Leaves _). q.lists) c.self.view_is in
    ap flat c.set.ensures.lists
    ∙ ap (λ (q : List (List _)). flat (set q spot.leaf (set (get_or q spot.leaf []) spot.at c.args.entry))) lists
    ∙ set_flat v.lists spot.leaf spot.at c.args.entry c.requires.leaf c.requires.at

pub returns-clause-spots : goal.returns-clause-spots
returns-clause-spots g c =
    let v = c.args.self.now in
    let spot = c.args.spot in
    let lists = ap (λ (q : Leaves _). q.lists) c.self.view_is in
    let leaf = get_or v.lists spot.leaf [] in
    let same = length-set leaf spot.at c.args.entry in
    let now : c.set.new.self.lists ≡ set v.lists spot.leaf (set leaf spot.at c.args.entry) =
    c.set.ensures.lists ∙ ap (λ (q : List (List _)). set q spot.leaf (set (get_or q spot.leaf []) spot.at c.args.entry)) lists in
    record {
      held = λ p held. record {
        leaf = omega (arith, held.leaf, ap length now, length-set v.lists spot.leaf (set leaf spot.at c.args.entry));
        at = omega (arith, held.at, ap (λ (q : List (List _)). length (get_or q p.leaf [])) now, length_kept v.lists spot.leaf (set leaf spot.at c.args.entry) same p.leaf);
      };
      indexes = λ p. ap (λ (q : List (List _)). index_at q p.leaf p.at) now ∙ index_kept v.lists spot.leaf (set leaf spot.at c.args.entry) same p.leaf p.at;
    }
