-- Names of page nodes are equal or not.
use Rattle.std.proofs.Common.{◌≡◌, ◌≢◌, Bool, true, false, ◌⊎◌, refl, sym, ap, ◌∙◌, inl, inr}
use mathlib.Core.Bool.{true≢false}
use Rattle.std.specs.declared.cmp.Ordering.{Ordering}
use Rattle.std.specs.declared.cmp.Ordering.TheVariants.{Less, Equal, Greater}
use Rattle.std.specs.Cmp.{eq_by_cmp_equiv}
use Rattle.std.specs.Ordering.{is_eq}
use Rattle.std.specs.FinMap.{IsAntisymmetric, slice_cmp-IsAntisymmetric, nat_cmp-IsAntisymmetric}
use Rattle.vm_ids.specs.declared.numbers.CacheId.{CacheId}
use Rattle.vm_ids.specs.declared.numbers.PageNo.{PageNo}
use Rattle.vm_ids.specs.declared.node_name.NodeName.{NodeName}
use Rattle.vm_ids.specs.Forest.Names.{Live, Working, name_key, name_cmp, name_cmp_total, same}

same_Live : (c d : CacheId) (p q : PageNo) → c.0 ≡ d.0 → p.0 ≡ q.0 → Live c p ≡ Live d q
same_Live c d p q e g = λ i. Live (record { 0 = e i }) (record { 0 = g i })

pub name_of_key : (x y : NodeName) → name_key x ≡ name_key y → x ≡ y
name_of_key (Live c p) (Live d q) e =
    let a : c.0 ≡ d.0 = cc e in
    let b : p.0 ≡ q.0 = cc e in
    same_Live c d p q a b
name_of_key (Live c p) (Working k) e = absurd (cc e)
name_of_key (Working k) (Live c p) e = absurd (cc e)
name_of_key (Working k) (Working l) e = cc e

pub name_cmp-IsAntisymmetric : IsAntisymmetric name_cmp
name_cmp-IsAntisymmetric x y e = name_of_key x y (slice_cmp-IsAntisymmetric nat_cmp-IsAntisymmetric (name_key x) (name_key y) e)

is_Equal : (r : Ordering) → is_eq r ≡ true → r ≡ Equal
is_Equal Equal e = refl
is_Equal Less e = absurd (cc e)
is_Equal Greater e = absurd (cc e)

pub same-true : (x y : NodeName) → same x y ≡ true → x ≡ y
unfolding same
same-true x y e = name_cmp-IsAntisymmetric x y (is_Equal (name_cmp x y) e)

pub same_itself : (x : NodeName) → same x x ≡ true
unfolding same
same_itself x = (eq_by_cmp_equiv name_cmp_total).refl x

is_false : (b : Bool) → (b ≡ true → ⊥) → b ≡ false
is_false true h = absurd (h refl)
is_false false h = refl

pub same_apart : (x y : NodeName) → x ≢ y → same x y ≡ false
same_apart x y h = is_false (same x y) (λ e. h (same-true x y e))

by_same : (x y : NodeName) (b : Bool) → same x y ≡ b → (x ≡ y) ⊎ (x ≢ y)
by_same x y true e = inl (same-true x y e)
by_same x y false e = inr (λ p. true≢false (sym (same_itself x) ∙ ap (same x) p ∙ e))

pub name_cases : (x y : NodeName) → (x ≡ y) ⊎ (x ≢ y)
name_cases x y = by_same x y (same x y) refl
