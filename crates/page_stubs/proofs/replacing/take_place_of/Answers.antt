use Rattle.std.proofs.Common.{◌≡◌, Bool, true, Option, Some, None, IsSome, refl, sym, ap, ◌∙◌, subst}
use Rattle.vm_ids.specs.declared.numbers.NodeId.{NodeId}
use Rattle.vm_ids.specs.Forest.Nodes.{node, is_stub}
use Rattle.local_cache.specs.Arena.{Arena, cell, HasNode}
use Rattle.local_cache.specs.Reading.{forest_of, name_of, hang_by}
use Rattle.local_cache.specs.Sound.{IsSound}
use Rattle.local_cache.specs.Changes.{Relinked}
use Rattle.local_cache.proofs.Forest.Reading.{node-forest_of}
use Rattle.page_stubs.proofs.Rules.Cut.{by_stub}
use Rattle.page_stubs.proofs.Lists.Room.{room-replaced}
use Rattle.page_stubs.proofs.Rules.Exchange.{places, neighbours_held}
use Rattle.page_stubs.proofs.replacing.take_place_of.Goals as goal

stub_read : (a : Arena) → IsSound a → (w : NodeId) → HasNode a w → is_stub (node (forest_of a) (name_of a w)).hang ≡ true → is_stub (hang_by a (cell a w).links.parent (cell a w).links.by_stub) ≡ true
stub_read a sound w h e = sym (ap (λ m. is_stub m.hang) (node-forest_of a sound.kept.named w h)) ∙ e

-- a stub has a parent
has_parent : (a : Arena) (up : Option NodeId) (t : Bool) → is_stub (hang_by a up t) ≡ true → IsSome up
has_parent a None t e = e
has_parent a (Some p) t e = refl

pub replace-requires-clause-before : goal.replace-requires-clause-before
replace-requires-clause-before c =
    let r = c.requires in
    let a = c.args.caches.now in
    (neighbours_held a r.sound c.args.w c.args.y c.unwrap-p.result r.w r.y r.root r.bare r.clear (sym c.parent.ensures ∙ c.unwrap-p.ensures) (by_stub a _ _ (stub_read a r.sound c.args.w r.w r.stub))).0

pub replace-requires-clause-behind : goal.replace-requires-clause-behind
replace-requires-clause-behind c =
    let r = c.requires in
    let a = c.args.caches.now in
    (neighbours_held a r.sound c.args.w c.args.y c.unwrap-p.result r.w r.y r.root r.bare r.clear (sym c.parent.ensures ∙ c.unwrap-p.ensures) (by_stub a _ _ (stub_read a r.sound c.args.w r.w r.stub))).1

pub unwrap-p-requires : goal.unwrap-p-requires
unwrap-p-requires c =
    let r = c.requires in
    let a = c.args.caches.now in
    subst IsSome (sym c.parent.ensures) (has_parent a (cell a c.args.w).links.parent _ (stub_read a r.sound c.args.w r.w r.stub))

pub returns : goal.returns
returns c =
    let r = c.requires in
    let a = c.args.caches.now in
    record {
      forest = ap forest_of c.replace.ensures ∙ (places a r.sound c.args.w c.args.y c.unwrap-p.result r.w r.y r.root r.bare r.clear (sym c.parent.ensures ∙ c.unwrap-p.ensures) (by_stub a _ _ (stub_read a r.sound c.args.w r.w r.stub))).forest;
      sound = subst IsSound (sym c.replace.ensures) (places a r.sound c.args.w c.args.y c.unwrap-p.result r.w r.y r.root r.bare r.clear (sym c.parent.ensures ∙ c.unwrap-p.ensures) (by_stub a _ _ (stub_read a r.sound c.args.w r.w r.stub))).sound;
      links = subst (Relinked a) (sym c.replace.ensures) (places a r.sound c.args.w c.args.y c.unwrap-p.result r.w r.y r.root r.bare r.clear (sym c.parent.ensures ∙ c.unwrap-p.ensures) (by_stub a _ _ (stub_read a r.sound c.args.w r.w r.stub))).links;
      room = (ap (λ b. b.room) c.replace.ensures ∙ room-replaced c.args.caches.now c.args.w c.args.y c.unwrap-p.result
          );
    }
