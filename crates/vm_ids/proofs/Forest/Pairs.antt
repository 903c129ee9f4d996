-- The pairs of a copy or a move, one after the other.
use Rattle.std.proofs.Common.{◌≡◌, ℕ, suc, ◌+◌, ◌-◌, ◌<◌, List, ◌∷◌, zero, length, Bool, false, leb, refl, sym, ap, ◌∙◌, subst, arith}
use Rattle.vm_ids.specs.declared.node_name.NodeName.{NodeName}
use Rattle.vm_ids.specs.declared.numbers.CacheId.{CacheId}
use Rattle.vm_ids.specs.declared.command.Span.{Span}
use Rattle.vm_ids.specs.Forest.Nodes.{Forest}
use Rattle.vm_ids.specs.Forest.Rules.{copy_page, move_page}
use Rattle.vm_ids.specs.Forest.Settling.{settle}
use Rattle.vm_ids.specs.Forest.Shape.{IsConsistent}
use Rattle.vm_ids.specs.Forest.Commands.{copy, copy_pages, move_pages, page_name, page_pairs, small_copy, span_pairs}
use Rattle.vm_ids.specs.Forest.Laws.Commands.{CanCopy}
use Rattle.vm_ids.specs.Forest.Laws.Linking.{ArePages}
use Rattle.vm_ids.proofs.Forest.Laws.Copying.{first_pages, later_can, still_can}
use Rattle.vm_ids.proofs.Forest.Lengths.{copy_page_stays}
use Rattle.vm_ids.proofs.Forest.Moving.{move_page_stays}

-- the pairs from one place on, and the first of them
pairs_step : (c : CacheId) (p : ℕ) (d : CacheId) (q n i : ℕ) → i < n → page_pairs c (p + i) d (q + i) (n - i) ≡ (page_name d (q + i), page_name c (p + i)) ∷ page_pairs c (p + (i + 1)) d (q + (i + 1)) (n - (i + 1))
pairs_step c p d q n i low =
    let left : n - i ≡ suc (n - (i + 1)) = omega arith in
    let from : p + i + 1 ≡ p + (i + 1) = omega arith in
    let to : q + i + 1 ≡ q + (i + 1) = omega arith in
    ap (page_pairs c (p + i) d (q + i)) left ∙ (λ k. (page_name d (q + i), page_name c (p + i)) ∷ page_pairs c (from k) d (to k) (n - (i + 1)))

pub pairs_start : (c : CacheId) (p : ℕ) (d : CacheId) (q n : ℕ) → page_pairs c p d q n ≡ page_pairs c (p + 0) d (q + 0) (n - 0)
pairs_start c p d q n =
    let from : p ≡ p + 0 = omega arith in
    let to : q ≡ q + 0 = omega arith in
    let all : n ≡ n - 0 = omega arith in
    λ k. page_pairs c (from k) d (to k) (all k)

pairs_length : (c : CacheId) (p : ℕ) (d : CacheId) (q n : ℕ) → length (page_pairs c p d q n) ≡ n
pairs_length c p d q zero = refl
pairs_length c p d q (suc n) = ap suc (pairs_length c (p + 1) d (q + 1) n)

-- A copy

module _ {P : Type 0} (f : Forest P) (consistent : IsConsistent f) (is_small : Bool) (c : CacheId) (p : ℕ) (d : CacheId) (q n i : ℕ) (low : i < n) (can : CanCopy f (page_pairs c (p + i) d (q + i) (n - i))) where
  abbrev to : NodeName
  to = page_name d (q + i)

  abbrev from : NodeName
  from = page_name c (p + i)

  abbrev rest : List (NodeName × NodeName)
  rest = page_pairs c (p + (i + 1)) d (q + (i + 1)) (n - (i + 1))

  can_now : CanCopy f ((page_name d (q + i), page_name c (p + i)) ∷ page_pairs c (p + (i + 1)) d (q + (i + 1)) (n - (i + 1)))
  can_now = subst (CanCopy f) (pairs_step c p d q n i low) can

  pub pages_now : ArePages f (page_name d (q + i)) (page_name c (p + i))
  pages_now = first_pages f (to, from) rest can_now

module _ {P : Type 0} where
  -- all pages of a copy, and then settle
  pub copied : (f g h : Forest P) (s : Span) → g ≡ copy_pages (leb s.pages small_copy) (span_pairs s) f → h ≡ settle g → h ≡ copy false (span_pairs s) f
  copied f g h s pages settled = settled ∙ ap settle pages ∙ ap (λ n. settle (copy_pages (leb n small_copy) (span_pairs s) f)) (sym (pairs_length s.from s.from_page.0 s.to s.to_page.0 s.pages))

-- A move

module _ {P : Type 0} (zeros : P) (f : Forest P) (c : CacheId) (p : ℕ) (d : CacheId) (q n i : ℕ) (low : i < n) where
  -- what the call leaves to be moved
  pub moved_by : (g : Forest P) → g ≡ move_page f (page_name d (q + i)) (page_name c (p + i)) zeros
      → move_pages zeros (page_pairs c (p + (i + 1)) d (q + (i + 1)) (n - (i + 1))) g ≡ move_pages zeros (page_pairs c (p + i) d (q + i) (n - i)) f
  moved_by g is = ap (move_pages zeros (page_pairs c (p + (i + 1)) d (q + (i + 1)) (n - (i + 1)))) is ∙ sym (ap (λ es. move_pages zeros es f) (pairs_step c p d q n i low))

  module _ (consistent : IsConsistent f) (can : CanCopy f (page_pairs c (p + i) d (q + i) (n - i))) where
    abbrev pairs_left : List (NodeName × NodeName)
    pairs_left = page_pairs c (p + (i + 1)) d (q + (i + 1)) (n - (i + 1))

    can_move_now : CanCopy f ((page_name d (q + i), page_name c (p + i)) ∷ page_pairs c (p + (i + 1)) d (q + (i + 1)) (n - (i + 1)))
    can_move_now = subst (CanCopy f) (pairs_step c p d q n i low) can

    pub move_now : ArePages f (page_name d (q + i)) (page_name c (p + i))
    move_now = first_pages f (page_name d (q + i), page_name c (p + i)) pairs_left can_move_now
