use Rattle.std.proofs.Common.{◌≡◌, ℕ, ◌+◌, ◌≤◌, ◌<◌, ◌++◌, ◌∷◌, List, [], length, map, set, ap, sym, ◌∙◌, arith}
use Rattle.std.proofs.lemmas.List.{map-set, map_push, length-map, length-set, length-append}
use Rattle.vm_model.specs.Answering.{overwrite}
use Rattle.vm_model.specs.Seen.{pages_seen}
use Rattle.vm_model.proofs.Parts.Lists.{overwrite-set}
use Rattle.vm_model.proofs.copies.put_pages.Goals as goal

pub loop-page-preserved : goal.loop-page-preserved
loop-page-preserved c =
    let left = c.pop.new.self.items in
    let page = c.in-Some.page in
    let before = c.loop-page.cache in
    let all : c.loop-page.pages.items ≡ left ++ page ∷ [] = c.in-Some.ensures.items in
    let many : length (left ++ page ∷ []) ≡ length left + 1 = length-append left (page ∷ []) in
    let at : c.len.result ≡ length (map (λ p. p.items) left) = c.len.ensures ∙ c.pop.new.self.ok.0 ∙ sym (length-map left (λ p. p.items)) in
    let room : c.args.first + (length left + 1) ≤ length before.pages.items = omega (arith, ap length all, many, c.loop-page.invariant.0) in
    let below : c.args.first + length (map (λ p. p.items) left) < length (pages_seen before) = omega (arith, room, length-map left (λ p. p.items), length-map before.pages.items (λ p. p.items)) in (
      omega (arith, room, length-set before.pages.items (c.args.first + c.len.result) page),
      ap (overwrite c.args.first (map (λ p. p.items) left)) (map-set (λ p. p.items) before.pages.items (c.args.first + c.len.result) page ∙ ap (λ (k : ℕ). set (pages_seen before) (c.args.first + k) page.items) at)
          ∙ overwrite-set c.args.first (map (λ p. p.items) left) (pages_seen before) page.items below
          ∙ ap (λ (ps : List (List ℕ)). overwrite c.args.first ps (pages_seen before)) (sym (ap (map (λ p. p.items)) all ∙ map_push (λ p. p.items) left page))
          ∙ c.loop-page.invariant.1,
      c.loop-page.invariant.2,
    )
