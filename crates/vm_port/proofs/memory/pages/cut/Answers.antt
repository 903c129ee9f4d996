use Rattle.std.proofs.Common.{◌≡◌, ℕ, ◌+◌, [], ◌∷◌, Vec, Global, take, drop, length, ap, ◌∙◌}
use Rattle.std.proofs.lemmas.List.{length-append}
use Rattle.std.proofs.lemmas.List.Elements.{All-push, All-same}
use Rattle.vm_port.proofs.Holding.{cut_on}
use Rattle.vm_port.proofs.memory.pages.cut.Goals as goal

pub loop-page-preserved : goal.loop-page-preserved
loop-page-preserved c =
    let one = c.in_ok-filled.field-0 in
    let whole : length one.items ≡ c.args.page_bytes = c.in_ok-filled.ensures.whole in
    let p = c.in_ok-push.ensures.items in
    let inv = c.loop-page.invariant in (
      cut_on c.loop-page.all.items c.push.new.self.items one c.args.pages c.loop-page._page c.args.page_bytes c.loop-page.rest.now c.split_at.result.0.now c.split_at.result.1.now
          c.loop-page-test.true p (c.split_at.ensures.front ∙ ap (λ (n : ℕ). take n c.loop-page.rest.now) c.min.ensures) (c.split_at.ensures.back ∙ ap (λ (n : ℕ). drop n c.loop-page.rest.now) c.min.ensures) c.in_ok-filled.ensures.filled
          ∙ inv.0,
      All-same (λ (v : Vec ℕ Global). length v.items ≡ c.args.page_bytes) _ _ p (All-push (λ (v : Vec ℕ Global). length v.items ≡ c.args.page_bytes) c.loop-page.all.items one inv.1 whole),
      ap length p ∙ length-append c.loop-page.all.items (one ∷ []) ∙ ap (λ (n : ℕ). n + 1) inv.2,
    )
