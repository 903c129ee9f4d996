use Rattle.std.proofs.Common.{◌≡◌, ◌<◌, ◌≤◌, List, length, map, Option, None, Some, refl, ap, subst, ◌∙◌}
use Rattle.std.specs.Prelude.{MatchOption}
use Rattle.vm_ids.specs.declared.numbers.FrameId.{FrameId}
use Rattle.vm_ids.specs.declared.numbers.NodeId.{NodeId}
use Rattle.global_map.specs.Pairs.{bound_times, node_of}
use Rattle.page_tables.specs.Entries.{is_in_frame}
use Rattle.page_tables.specs.Translations.{unless}
use Rattle.page_tables.specs.declared.entry.Entry.{Entry}
use Rattle.fault_path.proofs.Translations.Homes.{home_dropped, homeless_dropped}
use Rattle.fault_path.proofs.giving.drop_one.Goals as goal

-- what was found in a map that is another's
found_in : (m k : List (Option NodeId)) (n : NodeId) (r : Option FrameId) → k ≡ m → MatchOption r (bound_times k n.0 ≡ 0) (λ f. (f.0 < length k) × (node_of k f.0 ≡ Some n)) → MatchOption r (bound_times m n.0 ≡ 0) (λ f. (f.0 < length m) × (node_of m f.0 ≡ Some n))
found_in m k n r e h = subst (λ (l : List (Option NodeId)). MatchOption r (bound_times l n.0 ≡ 0) (λ f. (f.0 < length l) × (node_of l f.0 ≡ Some n))) e h

pub returns-in-Some : goal.returns-in-Some
returns-in-Some c =
    let m : List (Option NodeId) = c.args.store.now.map in
    let once : bound_times m c.args.node.0 ≤ 1 = subst (λ (l : List (Option NodeId)). bound_times l c.args.node.0 ≤ 1) c.map.ensures c.get.ensures.once in
    let found = subst (λ (r : Option FrameId). MatchOption r (bound_times m c.args.node.0 ≡ 0) (λ f. (f.0 < length m) × (node_of m f.0 ≡ Some c.args.node))) c.in-Some.is (found_in m c.map.result.now c.args.node c.get.result c.map.ensures c.get.ensures.found) in
    let tables = c.drop_frame.ensures ∙ ap (λ (ts : List (Option Entry)). map (unless (is_in_frame c.in-Some.frame.0)) ts) c.tables_mut.ensures.tables
    ∙ home_dropped m c.args.node c.in-Some.frame.0 once found.0 found.1 c.args.store.now.tables in
    λ i. record c.args.store.now { tables = tables i }

none_found : {A : Type 0} (P : FrameId → Type 0) (r : Option FrameId) → ((f : FrameId) → r ≡ Some f → ⊥) → MatchOption r A P → A
none_found P None out h = h
none_found P (Some f) out h = absurd (out f refl)

pub returns-in_default : goal.returns-in_default
returns-in_default c =
    let m : List (Option NodeId) = c.args.store.now.map in
    let none : bound_times m c.args.node.0 ≡ 0 = none_found {A = bound_times m c.args.node.0 ≡ 0} (λ f. (f.0 < length m) × (node_of m f.0 ≡ Some c.args.node)) c.get.result c.in_default.not-Some (found_in m c.map.result.now c.args.node c.get.result c.map.ensures c.get.ensures.found) in
    λ i. record c.args.store.now { tables = homeless_dropped m c.args.node none c.args.store.now.tables i }
