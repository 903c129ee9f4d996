-- Chains: a place tells what is behind it, so a chain has no place twice, and ends.
use Rattle.std.proofs.Common.{◌≡◌, ◌≢◌, ◌⊎◌, inl, inr, ℕ, zero, suc, ◌<◌, ◌≤◌, true, false, eqb, List, [], ◌∷◌, ◌++◌, length, Option, Some, None, refl, sym, ap, subst, ◌∙◌, arith}
use Rattle.std.specs.List.{AllByRecursion, IsDistinct, list_any}
use Rattle.std.proofs.lemmas.Bool.{cases_eq, cases_lt, eqb-true, ne_eqb, or_cases}
use Rattle.std.proofs.lemmas.List.{get_or_append_left, get_or_past, get_or_push, length_push}
use Rattle.std.proofs.lemmas.Map.Steps.{length-le_from_distinct_below}
use Rattle.linear_index.specs.declared.cell.Cell.{Cell}
use Rattle.linear_index.specs.Chains.{behind_of, cell_at, Ends, free, IsChain, IsIn, IsOn, key_at, key_in, next_at}

-- a place with a key has a cell
pub below : (cells : List Cell) (p : ℕ) → key_at cells p ≢ None → p < length cells
below cells p some = elim (cases_lt p (length cells)) [
  | inl less ↦ less
  | inr past ↦ absurd (some (ap key_in (get_or_past cells p free past)))
]

pub same_chain : (cells : List Cell) (from : Option ℕ) (ps qs : List ℕ) → IsChain cells from ps → IsChain cells from qs → ps ≡ qs
same_chain cells from [] [] c d = refl
same_chain cells from [] (q ∷ qs) c d = (let e : from ≡ Some q = d.0 in absurd (cc))
same_chain cells from (p ∷ ps) [] c d = (let e : from ≡ Some p = c.0 in absurd (cc))
same_chain cells from (p ∷ ps) (q ∷ qs) c d =
    let first : from ≡ Some p = c.0 in
    let other : from ≡ Some q = d.0 in
    let same : p ≡ q = cc in
    let rest : ps ≡ qs = same_chain cells (next_at cells p) ps qs c.2 (subst (λ (n : ℕ). IsChain cells (next_at cells n) qs) (sym same) d.2) in
    cc

-- the chain from one of its places on
pub record IsRest (cells : List Cell) (p : ℕ) (ps : List ℕ) : Type 0 where
  pub behind : List ℕ
  pub chain : IsChain cells (Some p) (p ∷ behind)
  pub shorter : length behind < length ps

pub rest_of : (cells : List Cell) (from : Option ℕ) (ps : List ℕ) (p : ℕ) → IsChain cells from ps → IsOn ps p → IsRest cells p ps
rest_of cells from [] p c on = absurd on
rest_of cells from (q ∷ qs) p c on = elim on [
  | inl same ↦ record { behind = qs; chain = subst (λ (n : ℕ). IsChain cells (Some n) (n ∷ qs)) same (refl, c.1, c.2); shorter = omega arith }
  | inr later ↦
      let r = rest_of cells (next_at cells q) qs p c.2 later in
      record { behind = r.behind; chain = r.chain; shorter = omega (arith, r.shorter) }
]

-- no chain is a ring
pub no_ring : (cells : List Cell) (from : Option ℕ) (p : ℕ) (ps : List ℕ) → IsChain cells from (p ∷ ps) → IsOn ps p → ⊥
no_ring cells from p ps c on =
    let r = rest_of cells (next_at cells p) ps p c.2 on in
    let same : p ∷ ps ≡ p ∷ r.behind = same_chain cells (Some p) (p ∷ ps) (p ∷ r.behind) (refl, c.1, c.2) r.chain in
    absurd (omega (arith, ap (λ (l : List ℕ). length l) same, r.shorter))

others : (p : ℕ) (ps : List ℕ) → (IsOn ps p → ⊥) → AllByRecursion (λ q. eqb p q ≡ false) ps
others p [] out = tt
others p (q ∷ qs) out = (ne_eqb p q (λ e. out (inl (sym e))), others p qs (λ on. out (inr on)))

distinct : (cells : List Cell) (from : Option ℕ) (ps : List ℕ) → IsChain cells from ps → IsDistinct eqb ps
unfolding IsDistinct
distinct cells from [] c = tt
distinct cells from (p ∷ ps) c = (others p ps (no_ring cells from p ps c), distinct cells (next_at cells p) ps c.2)

all_below : (cells : List Cell) (from : Option ℕ) (ps : List ℕ) → IsChain cells from ps → (q : ℕ) → list_any (eqb q) ps ≡ true → q < length cells
all_below cells from [] c q any = absurd (cc any)
all_below cells from (p ∷ ps) c q any = elim (or_cases (eqb q p) (list_any (eqb q) ps) any) [
  | inl here ↦ subst (λ (n : ℕ). n < length cells) (sym (eqb-true q p here)) (below cells p c.1)
  | inr later ↦ all_below cells (next_at cells p) ps c.2 q later
]

few : (cells : List Cell) (from : Option ℕ) (ps : List ℕ) → IsChain cells from ps → length ps ≤ length cells
few cells from ps c = length-le_from_distinct_below ps (length cells) (distinct cells from ps c) (all_below cells from ps c)

-- how many places there are from this one on, counted up to a limit
abbrev pub steps : ℕ → List Cell → Option ℕ → ℕ
steps zero cells from = zero
steps (suc n) cells None = zero
steps (suc n) cells (Some p) = suc (steps n cells (next_at cells p))

steps_chain : (n : ℕ) (cells : List Cell) (from : Option ℕ) (ps : List ℕ) → IsChain cells from ps → length ps ≤ n → steps n cells from ≡ length ps
steps_chain zero cells from [] c h = refl
steps_chain zero cells from (p ∷ ps) c h = absurd (omega arith)
steps_chain (suc n) cells from [] c h = ap (steps (suc n) cells) c
steps_chain (suc n) cells from (p ∷ ps) c h = ap (steps (suc n) cells) c.0 ∙ ap suc (steps_chain n cells (next_at cells p) ps c.2 (omega arith))

-- how many places there are from this one on
abbrev pub left : List Cell → Option ℕ → ℕ
left cells from = steps (length cells) cells from

pub left_is : (cells : List Cell) (from : Option ℕ) (ps : List ℕ) → IsChain cells from ps → left cells from ≡ length ps
left_is cells from ps c = steps_chain (length cells) cells from ps c (few cells from ps c)

-- ---- in a chain, whichever the list of its places is

pub in_list : (cells : List Cell) (from : Option ℕ) (ps : List ℕ) (q : ℕ) → IsChain cells from ps → IsIn cells from q → IsOn ps q
in_list cells from ps q c i = subst (λ (l : List ℕ). IsOn l q) (same_chain cells from i.0 ps i.1 c) i.2

pub none_in : (cells : List Cell) (q : ℕ) → IsIn cells None q → ⊥
none_in cells q i = in_list cells None [] q refl i

on_some : (cells : List Cell) (from : Option ℕ) (ps : List ℕ) (q : ℕ) → IsChain cells from ps → IsOn ps q → key_at cells q ≢ None
on_some cells from [] q c on = absurd on
on_some cells from (p ∷ ps) q c on = elim on [
  | inl same ↦ subst (λ (n : ℕ). key_at cells n ≢ None) same c.1
  | inr later ↦ on_some cells (next_at cells p) ps q c.2 later
]

pub in_some : (cells : List Cell) (from : Option ℕ) (q : ℕ) → IsIn cells from q → key_at cells q ≢ None
in_some cells from q i = on_some cells from i.0 q i.1 i.2

-- the chain from a place on: the place, and the chain from the next one on
pub record IsFront (cells : List Cell) (p : ℕ) : Type 0 where
  pub some : key_at cells p ≢ None
  pub whole : Ends cells (Some p)
  pub ends : Ends cells (next_at cells p)
  pub first : IsIn cells (Some p) p
  pub behind : (q : ℕ) → IsIn cells (next_at cells p) q → IsIn cells (Some p) q
  pub cases : (q : ℕ) → IsIn cells (Some p) q → (p ≡ q) ⊎ IsIn cells (next_at cells p) q
  pub apart : (q : ℕ) → IsIn cells (next_at cells p) q → p ≢ q
  pub less : left cells (next_at cells p) < left cells (Some p)

front_of : (cells : List Cell) (p : ℕ) (ps : List ℕ) → IsChain cells (Some p) (p ∷ ps) → IsFront cells p
front_of cells p ps c = record {
  some = c.1;
  whole = (p ∷ ps, c);
  ends = (ps, c.2);
  first = (p ∷ ps, c, inl refl);
  behind = λ q i. (p ∷ ps, c, inr (in_list cells (next_at cells p) ps q c.2 i));
  cases = λ q i. elim (in_list cells (Some p) (p ∷ ps) q c i) [
    | inl same ↦ inl same
    | inr later ↦ inr (ps, c.2, later)
  ];
  apart = λ q i e. no_ring cells (Some p) p ps c (subst (IsOn ps) (sym e) (in_list cells (next_at cells p) ps q c.2 i));
  less = omega (arith, left_is cells (Some p) (p ∷ ps) c, left_is cells (next_at cells p) ps c.2);
}

pub front : (cells : List Cell) (p : ℕ) → Ends cells (Some p) → IsFront cells p
front cells p e = by_list e.0 e.1 where
  by_list : (ps : List ℕ) → IsChain cells (Some p) ps → IsFront cells p
  by_list [] c = absurd (cc c)
  by_list (q ∷ qs) c =
      let is : Some p ≡ Some q = c.0 in
      let same : q ≡ p = cc in
      front_of cells p qs (subst (λ (n : ℕ). IsChain cells (Some p) (n ∷ qs)) same c)

-- ---- the same chain in other cells

pub chain_kept : (old new : List Cell) (from : Option ℕ) (ps : List ℕ) → IsChain old from ps → ((q : ℕ) → IsOn ps q → cell_at new q ≡ cell_at old q) → IsChain new from ps
chain_kept old new from [] c k = c
chain_kept old new from (p ∷ ps) c k =
    let here : cell_at new p ≡ cell_at old p = k p (inl refl) in
    (c.0, subst (λ (x : Cell). key_in x ≢ None) (sym here) c.1, subst (λ (x : Cell). IsChain new (behind_of x.link) ps) (sym here) (chain_kept old new (next_at old p) ps c.2 (λ q on. k q (inr on))))

-- the chain from this place on is the same one
pub record SameChain (old new : List Cell) (from : Option ℕ) : Type 0 where
  pub ends : Ends new from
  pub on : (q : ℕ) → IsIn old from q → IsIn new from q
  pub back : (q : ℕ) → IsIn new from q → IsIn old from q
  pub left : left new from ≡ left old from

pub kept : (old new : List Cell) (from : Option ℕ) → Ends old from → ((q : ℕ) → IsIn old from q → cell_at new q ≡ cell_at old q) → SameChain old new from
kept old new from e k =
    let c : IsChain new from e.0 = chain_kept old new from e.0 e.1 (λ q on. k q (e.0, e.1, on)) in
    record {
      ends = (e.0, c);
      on = λ q i. (e.0, c, in_list old from e.0 q e.1 i);
      back = λ q i. (e.0, e.1, in_list new from e.0 q c i);
      left = left_is new from e.0 c ∙ sym (left_is old from e.0 e.1);
    }

-- a place comes before a chain
pub put_first : (new : List Cell) (p : ℕ) → key_at new p ≢ None → Ends new (next_at new p) → (IsIn new (next_at new p) p → ⊥) → IsFront new p
put_first new p some e out = front_of new p e.0 (refl, some, e.1)

-- what is behind a place of a chain is one of its places
on_next : (cells : List Cell) (from : Option ℕ) (ps : List ℕ) (p q : ℕ) → IsChain cells from ps → IsOn ps p → next_at cells p ≡ Some q → IsOn ps q
on_next cells from [] p q c on next = absurd on
on_next cells from (r ∷ rs) p q c on next = elim on [
  | inl same ↦ inr (front_on cells rs q (subst (λ (o : Option ℕ). IsChain cells o rs) (ap (next_at cells) same ∙ next) c.2))
  | inr later ↦ inr (on_next cells (next_at cells r) rs p q c.2 later next)
] where
  front_on : (cells : List Cell) (rs : List ℕ) (q : ℕ) → IsChain cells (Some q) rs → IsOn rs q
  front_on cells [] q c = absurd (cc c)
  front_on cells (r ∷ rs) q c = (let is : Some q ≡ Some r = c.0 in inl (cc))

pub in_next : (cells : List Cell) (from : Option ℕ) (p q : ℕ) → IsIn cells from p → next_at cells p ≡ Some q → IsIn cells from q
in_next cells from p q i next = (i.0, i.1, on_next cells from i.0 p q i.1 i.2 next)

-- how far a chain is searched for a key
pub record IsSeeking (cells : List Cell) (first next : Option ℕ) (key : ℕ) : Type 0 where
  pub ends : Ends cells next
  pub from : (p : ℕ) → IsIn cells next p → IsIn cells first p
  pub passed : (p : ℕ) → IsIn cells first p → IsIn cells next p ⊎ ((cell_at cells p).key ≢ key)

pub seek_on : (cells : List Cell) (first : Option ℕ) (p key : ℕ) → IsSeeking cells first (Some p) key → (cell_at cells p).key ≢ key → IsSeeking cells first (next_at cells p) key
seek_on cells first p key s other =
    let f : IsFront cells p = front cells p s.ends in
    record {
      ends = f.ends;
      from = λ q i. s.from q (f.behind q i);
      passed = λ q i. elim (s.passed q i) [
        | inl next ↦ elim (f.cases q next) [
          | inl same ↦ inr (subst (λ (n : ℕ). (cell_at cells n).key ≢ key) same other)
          | inr later ↦ inl later
        ]
        | inr differs ↦ inr differs
      ];
    }

-- how far the place before another is sought in a chain
pub record IsBefore (cells : List Cell) (first before place : ℕ) : Type 0 where
  pub on : IsIn cells (Some first) before
  pub later : IsIn cells (Some before) place
  pub apart : before ≢ place

pub before_on : (cells : List Cell) (first before place next : ℕ) → IsBefore cells first before place → next_at cells before ≡ Some next → next ≢ place → IsBefore cells first next place
before_on cells first before place next b leads other = record {
  on = in_next cells (Some first) before next b.on leads;
  later = elim ((front cells before (b.later.0, b.later.1)).cases place b.later) [
    | inl same ↦ absurd (b.apart same)
    | inr behind ↦ subst (λ (o : Option ℕ). IsIn cells o place) leads behind
  ];
  apart = other;
}

-- a place is behind the one before it
pub is_behind : (cells : List Cell) (first before place : ℕ) → IsBefore cells first before place → next_at cells before ≢ None
is_behind cells first before place b none = elim ((front cells before (b.later.0, b.later.1)).cases place b.later) [
  | inl same ↦ b.apart same
  | inr behind ↦ none_in cells place (subst (λ (o : Option ℕ). IsIn cells o place) none behind)
]

-- cells are added for places that had none
pub record IsCovering (old new : List Cell) (place : ℕ) : Type 0 where
  pub same : (p : ℕ) → cell_at new p ≡ cell_at old p
  pub long : length old ≤ length new
  pub few : (room : ℕ) → length old ≤ room → place < room → length new ≤ room

pub covering : (cells : List Cell) (place : ℕ) → IsCovering cells cells place
covering cells place = record { same = λ p. refl; long = omega arith; few = λ room h less. h }

pub cover_on : (old new : List Cell) (place : ℕ) → IsCovering old new place → length new ≤ place → IsCovering old (new ++ free ∷ []) place
cover_on old new place c short = record {
  same = λ p. elim (cases_lt p (length new)) [
    | inl less ↦ get_or_append_left new (free ∷ []) free p less ∙ c.same p
    | inr past ↦ past_same p past ∙ c.same p
  ];
  long = omega (arith, c.long, length_push new free);
  few = λ room h less. omega (arith, length_push new free);
} where
  past_same : (p : ℕ) → length new ≤ p → cell_at (new ++ free ∷ []) p ≡ cell_at new p
  past_same p past = elim (cases_eq p (length new)) [
    | inl same ↦ get_or_push new free free p (sym same) ∙ sym (get_or_past new p free past)
    | inr other ↦ get_or_past (new ++ free ∷ []) p free (omega (arith, length_push new free)) ∙ sym (get_or_past new p free past)
  ]
