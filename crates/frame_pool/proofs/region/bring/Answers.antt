use Rattle.std.proofs.Common.{rules, ◌≡◌, ◌≤◌, ◌+◌, ◌-◌, ◌*◌, ◌++◌, ℕ, List, length, replicate, ap, ◌∙◌, arith}
use Rattle.std.proofs.Math.Nat.{mul-le-mul_right}
use Rattle.std.proofs.lemmas.List.{take_all}
use Rattle.frame_pool.specs.Region.{pages_in}
use Rattle.frame_pool.proofs.WrittenPages.{brought}
use Rattle.frame_pool.proofs.region.bring.Goals as goal

pub returns-clause-same : goal.returns-clause-same
returns-clause-same c =
    let n = c.args.page in
    let end : ℕ = (c.args.at + 1) * n in
    let old : List ℕ = c.args.bytes.now.items in
    let whole : length old ≡ c.args.there * n = search rules in
    let more : c.args.there ≤ c.args.at + 1 = search rules in
    let longer : c.args.there * n ≤ end = mul-le-mul_right n more in
    let grown : c.resize.new.self.items ≡ old ++ replicate (end - length old) 0 =
    c.in-Ok.ensures.items ∙ ap (λ (front : List ℕ). front ++ replicate (end - c.args.bytes.now.len) 0) (take_all end old (omega (arith, longer, whole)))
    ∙ ap (λ (k : ℕ). old ++ replicate (end - k) 0) c.args.bytes.now.ok.0 in
    ap (pages_in n c.args.count (c.args.at + 1)) grown
    ∙ brought n c.args.count c.args.there (c.args.at + 1) old whole more (search rules)
