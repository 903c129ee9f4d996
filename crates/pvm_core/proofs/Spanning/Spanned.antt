-- Facts on spans.
use Rattle.std.proofs.Common.{◌≡◌, ◌==◌, ◌⊎◌, ◌+◌, ◌≤◌, Bool, true, false, refl, sym, ap, ◌∙◌, arith, inl, inr}
use Rattle.std.specs.Prelude.{◌&&◌, nat_lt}
use Rattle.std.proofs.lemmas.Bool.Decides.{nat_tests}
use Rattle.vm_ids.specs.declared.command.Span.{Span}
use Rattle.vm_ids.specs.declared.numbers.CacheId.{CacheId}
use Rattle.vm_ids.specs.Forest.Laws.Ranges.{IsApart}
use Rattle.pvm_core.proofs.Spanning.SpanRows.{meets}

pub apart_of : (s : Span) → meets s ≡ false → IsApart s
apart_of s apart e = go (nat_lt s.from_page.0 (s.to_page.0 + s.pages)) (nat_lt s.to_page.0 (s.from_page.0 + s.pages)) refl refl
    (ap (λ (b : Bool). b && (nat_lt s.from_page.0 (s.to_page.0 + s.pages) && nat_lt s.to_page.0 (s.from_page.0 + s.pages))) (sym (let q : s.from.0 ≡ s.to.0 = ap (λ (c : CacheId). c.0) e in let t : (s.from.0 == s.to.0) ≡ true = grind (arith, nat_tests) in t)) ∙ apart)
  where
    go : (a b : Bool) → nat_lt s.from_page.0 (s.to_page.0 + s.pages) ≡ a → nat_lt s.to_page.0 (s.from_page.0 + s.pages) ≡ b → (a && b) ≡ false → (s.from_page.0 + s.pages ≤ s.to_page.0) ⊎ (s.to_page.0 + s.pages ≤ s.from_page.0)
    go true true p q e = absurd (cc e)
    go true false p q e = inl (grind (arith, nat_tests))
    go false b p q e = inr (grind (arith, nat_tests))
