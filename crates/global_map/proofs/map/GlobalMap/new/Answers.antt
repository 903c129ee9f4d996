use Rattle.std.proofs.Common.{◌≡◌, ℕ, ◌-◌, List, [], ◌++◌, Option, None, take, replicate, sym, ap, subst, ◌∙◌, arith}
use Rattle.std.proofs.Math.Seq.{take-nil}
use Rattle.vm_ids.specs.declared.numbers.NodeId.{NodeId}
use Rattle.global_map.specs.Pairs.{IsIndexed}
use Rattle.global_map.proofs.Places.{none_indexed}
use Rattle.global_map.proofs.map.GlobalMap.new.Goals as goal

filled : (xs ys : List (Option NodeId)) (len frames : ℕ) → xs ≡ [] → len ≡ 0 → ys ≡ take frames xs ++ replicate (frames - len) None → ys ≡ replicate frames None
filled xs ys len frames empty none is =
    let all : frames - len ≡ frames = omega arith in
    let front : take frames xs ≡ [] = ap (take frames) empty ∙ take-nil frames in
    is ∙ ap (λ (f : List (Option NodeId)). f ++ replicate (frames - len) None) front ∙ ap (λ (n : ℕ). replicate n None) all

pub invariant_of-result : goal.invariant_of-result
invariant_of-result c =
    let nodes : c.resize.new.self.items ≡ replicate c.args.frames None = filled _ _ _ c.args.frames c.new-nodes.ensures.items c.new-nodes.ensures.len c.in_ok-resize.ensures.items in
    subst (λ (xs : List (Option NodeId)). IsIndexed xs c.in_ok-table.table) (sym nodes)
    (subst (λ (xs : List (Option ℕ)). IsIndexed (replicate c.args.frames None) xs) (sym c.in_ok-table.ensures) (none_indexed c.args.frames c.requires))
