-- The laws of ranges and of pairs of pages.
use Rattle.std.proofs.Common.{◌≡◌, ℕ, suc, zero, ◌+◌, ◌<◌, [], ◌∷◌, Bool, cond, Some, refl, sym, ap, subst, ◌∙◌, inl, inr, arith}
use Rattle.vm_ids.specs.declared.numbers.CacheId.{CacheId}
use Rattle.vm_ids.specs.declared.numbers.PageNo.{PageNo}
use Rattle.vm_ids.specs.declared.node_name.NodeName.{NodeName}
use Rattle.vm_ids.specs.Forest.Names.{same}
use Rattle.vm_ids.proofs.Forest.Names.{same_itself, same_apart}
use Rattle.vm_ids.specs.Forest.NameLists.{◌∈◌}
use Rattle.vm_ids.specs.Forest.Nodes.{Forest, IsNode, is_live}
use Rattle.vm_ids.specs.Forest.Commands.{page_name, page_names, pages_at, page_pairs}
use Rattle.vm_ids.specs.Forest.Laws.Commands.{source_of, given, ArePagesOnce}
use Rattle.vm_ids.specs.Forest.Laws.Ranges.{AreNodes, RangesHoldTheirPages, RangesHoldPagesOnce, PairsFillDestinations, PairsReadSources, PairsKeepPlaces, ExtentsArePages, SpansCanBeCopied, PagesHaveTheirNames, PagesAreGiven}

page_number : (c d : CacheId) (p q : ℕ) → page_name c p ≡ page_name d q → (c ≡ d) × (p ≡ q)
page_number c d p q e = (cc e, let r : ◌≡◌ {A = PageNo} (record { 0 = p }) (record { 0 = q }) = cc e in ap (λ n. n.0) r)

of_page : (c : CacheId) (p n : ℕ) (x : NodeName) → x ∈ page_names c p n → (i : ℕ) × (i < n) × (x ≡ page_name c (p + i))
of_page c p zero x i = absurd i
of_page c p (suc n) x i = elim i [
  | inl e ↦ (0, omega arith, e ∙ ap (page_name c) (omega arith))
  | inr j ↦ let r = of_page c (p + 1) n x j in (suc r.0, (let l = r.1 in omega arith), r.2 ∙ ap (page_name c) (omega arith))
]

is_page : (c : CacheId) (p n : ℕ) (i : ℕ) → i < n → page_name c (p + i) ∈ page_names c p n
is_page c p zero i low = absurd (omega arith)
is_page c p (suc n) zero low = inl (ap (page_name c) (omega arith))
is_page c p (suc n) (suc i) low = inr (subst (λ x. x ∈ page_names c (p + 1) n) (ap (page_name c) (omega arith)) (is_page c (p + 1) n i (omega arith)))

pub ranges_hold_their_pages : RangesHoldTheirPages
ranges_hold_their_pages c p n x = (of_page c p n x, λ r. subst (λ y. y ∈ page_names c p n) (sym r.2) (is_page c p n r.0 r.1))

pub ranges_hold_pages_once : RangesHoldPagesOnce
ranges_hold_pages_once c p zero = tt
ranges_hold_pages_once c p (suc n) = (
  λ i. let r = of_page c (p + 1) n (page_name c p) i in let q = (page_number c c p (p + 1 + r.0) r.2).1 in absurd (omega arith),
  ranges_hold_pages_once c (p + 1) n,
)

pub pairs_fill_destinations : PairsFillDestinations
pairs_fill_destinations c d p q zero = refl
pairs_fill_destinations c d p q (suc n) = ap (λ xs. page_name d q ∷ xs) (pairs_fill_destinations c d (p + 1) (q + 1) n)

pub pairs_read_sources : PairsReadSources
pairs_read_sources c d p q zero = refl
pairs_read_sources c d p q (suc n) = ap (λ xs. page_name c p ∷ xs) (pairs_read_sources c d (p + 1) (q + 1) n)

source_at : (c d : CacheId) (p q n i : ℕ) → i < n → source_of (page_pairs c p d q n) (page_name d (q + i)) ≡ page_name c (p + i)
source_at c d p q zero i low = absurd (omega arith)
source_at c d p q (suc n) zero low =
    let here : page_name d (q + 0) ≡ page_name d q = ap (page_name d) (omega arith) in
    ap (λ (t : Bool). cond t (page_name c p) (source_of (page_pairs c (p + 1) d (q + 1) n) (page_name d (q + 0)))) (ap (λ x. same x (page_name d q)) here ∙ same_itself (page_name d q))
    ∙ ap (page_name c) (omega arith)
source_at c d p q (suc n) (suc i) low =
    let later : page_name d (q + suc i) ≡ page_name d (q + 1 + i) = ap (page_name d) (omega arith) in
    ap (λ (t : Bool). cond t (page_name c p) (source_of (page_pairs c (p + 1) d (q + 1) n) (page_name d (q + suc i)))) (same_apart _ _ (λ e. let k = (page_number d d (q + suc i) q e).1 in absurd (omega arith)))
    ∙ ap (source_of (page_pairs c (p + 1) d (q + 1) n)) later ∙ source_at c d (p + 1) (q + 1) n i (omega arith) ∙ ap (page_name c) (omega arith)

pub pairs_keep_places : PairsKeepPlaces
pairs_keep_places s i low = source_at s.from s.to s.from_page.0 s.to_page.0 s.pages i low

module _ {P : Type 0} where
  pages_once : (f : Forest P) (c : CacheId) (p n : ℕ) → AreNodes f c p n → ArePagesOnce f (page_names c p n)
  pages_once f c p n nodes = record {
    once = ranges_hold_pages_once c p n;
    live = λ x i. let r = of_page c p n x i in (subst (IsNode f) (sym r.2) (nodes r.0 r.1), ap is_live r.2);
  }

  pub extents_are_pages : ExtentsArePages P
  extents_are_pages f e nodes = pages_once f e.cache e.first.0 e.pages nodes

  pub spans_can_be_copied : SpansCanBeCopied P
  spans_can_be_copied f s from to apart =
      let fill = pairs_fill_destinations s.from s.to s.from_page.0 s.to_page.0 s.pages in
      let read = pairs_read_sources s.from s.to s.from_page.0 s.to_page.0 s.pages in
      record {
        destinations = subst (λ xs. ArePagesOnce f xs) (sym fill) (pages_once f s.to s.to_page.0 s.pages to);
        sources = λ x i.
            let r = of_page s.from s.from_page.0 s.pages x (subst (λ xs. x ∈ xs) read i) in (
              subst (IsNode f) (sym r.2) (from r.0 r.1),
              ap is_live r.2,
              λ j.
                  let d = of_page s.to s.to_page.0 s.pages x (subst (λ xs. x ∈ xs) fill j) in
                  let k = page_number s.from s.to (s.from_page.0 + r.0) (s.to_page.0 + d.0) (sym r.2 ∙ d.2) in
                  let e = k.1 in
                  let a = r.1 in
                  let b = d.1 in
                  absurd (elim (apart k.0) [ inl l ↦ (omega arith) | inr l ↦ (omega arith) ]),
            );
      }

  pub pages_have_their_names : PagesHaveTheirNames P
  pages_have_their_names c p [] = refl
  pages_have_their_names c p (v ∷ vs) = ap (λ xs. page_name c p ∷ xs) (pages_have_their_names c (p + 1) vs)

  pub pages_are_given : PagesAreGiven P
  pages_are_given c p [] i low = absurd (omega arith)
  pages_are_given c p (v ∷ vs) zero low =
      let here : page_name c (p + 0) ≡ page_name c p = ap (page_name c) (omega arith) in
      ap (λ (t : Bool). cond t (Some v) (given (pages_at c (p + 1) vs) (page_name c (p + 0)))) (ap (λ x. same x (page_name c p)) here ∙ same_itself (page_name c p))
  pages_are_given c p (v ∷ vs) (suc i) low =
      let later : page_name c (p + suc i) ≡ page_name c (p + 1 + i) = ap (page_name c) (omega arith) in
      ap (λ (t : Bool). cond t (Some v) (given (pages_at c (p + 1) vs) (page_name c (p + suc i)))) (same_apart _ _ (λ e. let k = (page_number c c (p + suc i) p e).1 in absurd (omega arith)))
      ∙ ap (given (pages_at c (p + 1) vs)) later ∙ pages_are_given c (p + 1) vs i (omega arith)
