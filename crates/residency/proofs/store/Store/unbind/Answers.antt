use Rattle.std.proofs.Common.{◌≡◌, ℕ, ◌<◌, true, List, length, map, Option, Some, None, ap, subst, sym, ◌∙◌}
use Rattle.std.specs.Prelude.{MatchOption}
use Rattle.vm_ids.specs.declared.numbers.FrameId.{FrameId}
use Rattle.vm_ids.specs.declared.numbers.NodeId.{NodeId}
use Rattle.vm_ids.proofs.Places.{only_place, same_number}
use Rattle.global_map.specs.Pairs.{bound_times, frame_of, is_node, node_of}
use Rattle.page_tables.specs.Entries.{is_in_frame}
use Rattle.page_tables.specs.Translations.{IsFrame, unless}
use Rattle.residency.proofs.store.Store.unbind.Goals as goal

-- a bound node was looked up
place : (m : List (Option NodeId)) (n : NodeId) (r : Option FrameId) (f : FrameId) → MatchOption r (bound_times m n.0 ≡ 0) (λ frame. (frame.0 < length m) × (node_of m frame.0 ≡ Some n))
    → r ≡ Some f → bound_times m n.0 ≡ 1 → frame_of m n.0 ≡ f.0
place m n r f found is once =
    let at = subst (λ (o : Option FrameId). MatchOption o (bound_times m n.0 ≡ 0) (λ frame. (frame.0 < length m) × (node_of m frame.0 ≡ Some n))) is found in
    let here : is_node n.0 (node_of m f.0) ≡ true = ap (is_node n.0) at.1 ∙ same_number n.0 in
    only_place (is_node n.0) m f.0 None once at.0 here

pub drop_frame-requires : goal.drop_frame-requires
drop_frame-requires c =
    subst (λ (k : ℕ). IsFrame c.args.self.now.tables k) (place c.args.self.now.map c.args.node c.get.result c.unwrap-emptied.result c.get.ensures.found c.unwrap-emptied.ensures c.requires.bound) c.requires.tables

pub returns : goal.returns
returns c =
    let tables = c.drop_frame.ensures ∙ ap (λ (k : ℕ). map (unless (is_in_frame k)) c.args.self.now.tables) (sym (place c.args.self.now.map c.args.node c.get.result c.unwrap-emptied.result c.get.ensures.found c.unwrap-emptied.ensures c.requires.bound)) in
    λ i. record c.args.self.now { map = c.unbind.ensures i; tables = tables i }
