use Rattle.std.proofs.Common.{rules, ◌≡◌, ◌<◌, true, Bool, Option, Some, None, IsSome, refl, sym, ap, subst, ◌∙◌}
use Rattle.vm_ids.specs.declared.numbers.NodeId.{NodeId}
use Rattle.local_cache.specs.declared.links.Neighbours.{Neighbours}
use Rattle.local_cache.specs.Arena.{Arena, cell, HasNode}
use Rattle.local_cache.specs.NodeCells.{neighbours_of}
use Rattle.local_cache.specs.Reading.{forest_of, hang_by, name_of}
use Rattle.local_cache.specs.Sound.{IsKept}
use Rattle.vm_ids.specs.Forest.Nodes.{is_stub}
use Rattle.vm_ids.specs.Forest.Changes.{edit, with_own}
use Rattle.vm_ids.specs.Forest.Shape.{IsLinked}
use Rattle.page_stubs.specs.Threading.{IsHeldIf, cut_out, loose, taken_out}
use Rattle.page_stubs.proofs.Rules.Cut.{HasCut, cut-rule, neighbours, by_stub}
use Rattle.page_stubs.proofs.Lists.Room.{room-cut}
use Rattle.page_stubs.proofs.cutting.leave_stubs.Goals as goal

-- a stub has a parent
has_parent : (a : Arena) (up : Option NodeId) (t : Bool) → is_stub (hang_by a up t) ≡ true → IsSome up
has_parent a None t e = e
has_parent a (Some p) t e = refl

pub unwrap-p-requires : goal.unwrap-p-requires
unwrap-p-requires c =
    let a = c.args.caches.now in
    subst IsSome (sym c.parent.ensures) (has_parent a (cell a c.args.node).links.parent _ c.requires.stub)

module _ (a : Arena) (n p : NodeId) (o : Option NodeId) (own : Neighbours) (kept : IsKept a) (held : HasNode a n) (linked : IsLinked (edit (forest_of a) (name_of a n) (with_own None)))
    (stub : is_stub (hang_by a (cell a n).links.parent (cell a n).links.by_stub) ≡ true) (up : o ≡ (cell a n).links.parent) (is : o ≡ Some p) (beside : own ≡ neighbours_of (cell a n).links) where
  around : IsHeldIf a (cell a n).links.before × IsHeldIf a (cell a n).links.behind × (0 < (cell a p).links.stubs)
  around = neighbours a kept n p held linked (sym up ∙ is) (by_stub a _ _ stub)

  before_held : IsHeldIf a own.before
  before_held = subst (λ (b : Neighbours). IsHeldIf a b.before) (sym beside) around.0

  behind_held : IsHeldIf a own.behind
  behind_held = subst (λ (b : Neighbours). IsHeldIf a b.behind) (sym beside) around.1

  cut : (b : Arena) → b ≡ taken_out a p own.before own.behind → HasCut a (loose b n) n
  cut b e = cut-rule a kept n p held linked (sym up ∙ is) (by_stub a _ _ stub) (loose b n)
      (ap (λ x. loose x n) e ∙ ap (λ (k : Neighbours). cut_out a n p k.before k.behind) beside)

  room : (b : Arena) → b ≡ taken_out a p own.before own.behind → (loose b n).room ≡ a.room
  room b e = ap (λ x. (loose x n).room) e ∙ room-cut a n p own.before own.behind

pub take_out-requires-clause-before : goal.take_out-requires-clause-before
take_out-requires-clause-before c =
    let r = c.requires in
    before_held c.args.caches.now c.args.node c.unwrap-p.result c.parent.result c.neighbours-own.result r.kept r.node r.linked r.stub c.parent.ensures c.unwrap-p.ensures c.neighbours-own.ensures

pub take_out-requires-clause-behind : goal.take_out-requires-clause-behind
take_out-requires-clause-behind c =
    let r = c.requires in
    behind_held c.args.caches.now c.args.node c.unwrap-p.result c.parent.result c.neighbours-own.result r.kept r.node r.linked r.stub c.parent.ensures c.unwrap-p.ensures c.neighbours-own.ensures

pub take_out-requires-clause-some : goal.take_out-requires-clause-some
take_out-requires-clause-some c =
    let r = c.requires in
    (around c.args.caches.now c.args.node c.unwrap-p.result c.parent.result c.neighbours-own.result r.kept r.node r.linked r.stub c.parent.ensures c.unwrap-p.ensures c.neighbours-own.ensures).2

pub returns : goal.returns
returns c =
    let r = c.requires in
    record {
      forest = (cut c.args.caches.now c.args.node c.unwrap-p.result c.parent.result c.neighbours-own.result r.kept r.node r.linked r.stub c.parent.ensures c.unwrap-p.ensures c.neighbours-own.ensures _ c.take_out.ensures.changed).forest;
      sound = (cut c.args.caches.now c.args.node c.unwrap-p.result c.parent.result c.neighbours-own.result r.kept r.node r.linked r.stub c.parent.ensures c.unwrap-p.ensures c.neighbours-own.ensures _ c.take_out.ensures.changed).sound;
      links = (cut c.args.caches.now c.args.node c.unwrap-p.result c.parent.result c.neighbours-own.result r.kept r.node r.linked r.stub c.parent.ensures c.unwrap-p.ensures c.neighbours-own.ensures _ c.take_out.ensures.changed).links;
      room = room c.args.caches.now c.args.node c.unwrap-p.result c.parent.result c.neighbours-own.result r.kept r.node r.linked r.stub c.parent.ensures c.unwrap-p.ensures c.neighbours-own.ensures _ c.take_out.ensures.changed;
      stays = search rules;
    }
