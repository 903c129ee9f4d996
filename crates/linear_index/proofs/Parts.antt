-- A chain without one of its places, and a chain in two.
use Rattle.std.proofs.Common.{◌≡◌, ◌≢◌, ◌⊎◌, inl, inr, ℕ, ◌-◌, ◌<◌, Bool, true, false, not, eqb, List, [], ◌∷◌, length, set, Option, Some, None, refl, sym, ap, subst, ◌∙◌, arith}
use Rattle.std.proofs.lemmas.Bool.{cases_eq, eq-eqb, ne_eqb, not_from_true, not_from_false}
use Rattle.std.proofs.lemmas.List.{get_or-set_same, get_or-set_other}
use Rattle.linear_index.specs.declared.cell.Cell.{Cell}
use Rattle.linear_index.specs.declared.cell.Link.{Link}
use Rattle.linear_index.specs.declared.cell.Link.TheVariants.{Free, Last, Before}
use Rattle.linear_index.specs.Chains.{behind_of, cell_at, Ends, free, IsChain, IsIn, IsOn, IsPart, KeepsOthers, key_at, key_by, key_in, link_to, next_at, SameKeys}
use Rattle.linear_index.proofs.Chaining.{below, chain_kept, front, in_list, in_some, IsFront, kept, left, no_ring, none_in, put_first, rest_of, same_chain, SameChain}

pub at_same : (cells : List Cell) (p : ℕ) (x : Cell) → p < length cells → cell_at (set cells p x) p ≡ x
at_same cells p x less = get_or-set_same cells p x free less

pub at_other : (cells : List Cell) (p : ℕ) (x : Cell) (q : ℕ) → q ≢ p → cell_at (set cells p x) q ≡ cell_at cells q
at_other cells p x q other = get_or-set_other cells p q x free other

-- a test that a place isn't this one
pub not_this : (q p : ℕ) → q ≢ p → not (eqb q p) ≡ true
not_this q p other = ap not (ne_eqb q p other)

pub is_other : (q p : ℕ) → not (eqb q p) ≡ true → q ≢ p
is_other q p e same = (let f : not (eqb q p) ≡ false = ap not (eq-eqb q p same) in absurd (cc))

-- the first place goes
pub without_first : (cells : List Cell) (p : ℕ) → Ends cells (Some p) → IsPart cells cells (Some p) (next_at cells p) (λ q. not (eqb q p))
without_first cells p e =
    let f = front cells p e in
    record {
      ends = f.ends;
      places = λ q. (
        (λ i. (f.behind q i, not_this q p (λ same. f.apart q i (sym same)))),
        (λ both. elim (f.cases q both.0) [
          | inl same ↦ absurd (is_other q p both.1 (sym same))
          | inr later ↦ later
        ]),
      );
    }

-- no place comes before the one that it is behind of
not_before : (cells : List Cell) (from : Option ℕ) (p : ℕ) (ps : List ℕ) (before : ℕ) → IsChain cells from (p ∷ ps) → IsOn ps before → next_at cells before ≡ Some p → ⊥
not_before cells from p ps before c on next =
    let r = rest_of cells (next_at cells p) ps before c.2 on in
    let again : IsChain cells (Some p) r.behind = subst (λ (o : Option ℕ). IsChain cells o r.behind) next r.chain.2 in
    let same : p ∷ ps ≡ r.behind = same_chain cells (Some p) (p ∷ ps) r.behind (refl, c.1, c.2) again in
    absurd (omega (arith, ap (λ (l : List ℕ). length l) same, r.shorter))

-- the chain without a place, past which the place before it now leads
record IsLess (old new : List Cell) (from : Option ℕ) (ps : List ℕ) (place : ℕ) : Type 0 where
  rest : List ℕ
  chain : IsChain new from rest
  back : (q : ℕ) → IsOn rest q → IsOn ps q × (q ≢ place)
  on : (q : ℕ) → IsOn ps q → q ≢ place → IsOn rest q

module _ (old new : List Cell) (before place : ℕ)
    (leads : next_at old before ≡ Some place) (past : next_at new before ≡ next_at old place)
    (key : key_at new before ≢ None)
    (others : (q : ℕ) → q ≢ before → cell_at new q ≡ cell_at old q) where
  less_at : (from : Option ℕ) (ps : List ℕ) → IsChain old from (before ∷ ps) → IsChain old (Some place) ps → IsLess old new from (before ∷ ps) place
  less_at from [] c d = absurd (cc d)
  less_at from (p ∷ ps) c d =
      let is : Some place ≡ Some p = d.0 in
      let same : p ≡ place = cc in
      let far : IsOn (p ∷ ps) before → ⊥ = no_ring old from before (p ∷ ps) c in
      let none : IsOn ps p → ⊥ = no_ring old (Some place) p ps d in
      let rest : IsChain new (next_at old p) ps = chain_kept old new (next_at old p) ps d.2 (λ q on. others q (λ e. far (inr (subst (IsOn ps) e on)))) in
      let to : next_at old p ≡ next_at new before = ap (next_at old) same ∙ sym past in
      record {
        rest = before ∷ ps;
        chain = (c.0, key, subst (λ (o : Option ℕ). IsChain new o ps) to rest);
        back = λ q on. elim on [
          | inl here ↦ (inl here, λ e. far (inl (same ∙ sym e ∙ sym here)))
          | inr later ↦ (inr (inr later), λ e. none (subst (IsOn ps) (e ∙ sym same) later))
        ];
        on = λ q on other. elim on [
          | inl here ↦ inl here
          | inr later ↦ elim later [
            | inl at ↦ absurd (other (sym at ∙ same))
            | inr more ↦ inr more
          ]
        ];
      }

  less_from : (from : Option ℕ) (ps : List ℕ) → IsChain old from ps → IsOn ps before → IsLess old new from ps place
  less_from from [] c on = absurd on
  less_from from (p ∷ ps) c on = elim on [
    | inl here ↦
        let d : IsChain old (Some place) ps = subst (λ (o : Option ℕ). IsChain old o ps) (ap (next_at old) here ∙ leads) c.2 in
        subst (λ (n : ℕ). IsLess old new from (n ∷ ps) place) (sym here) (less_at from ps (subst (λ (n : ℕ). IsChain old from (n ∷ ps)) here c) d)
    | inr later ↦
        let r = less_from (next_at old p) ps c.2 later in
        let other : p ≢ before = λ e. no_ring old from p ps c (subst (IsOn ps) (sym e) later) in
        let apart : p ≢ place = λ e. not_before old from p ps before c later (leads ∙ ap Some (sym e)) in
        let here : cell_at new p ≡ cell_at old p = others p other in
        record {
          rest = p ∷ r.rest;
          chain = (c.0, subst (λ (x : Cell). key_in x ≢ None) (sym here) c.1, subst (λ (x : Cell). IsChain new (behind_of x.link) r.rest) (sym here) r.chain);
          back = λ q on. elim on [
            | inl at ↦ (inl at, λ e. apart (at ∙ e))
            | inr more ↦ (inr (r.back q more).0, (r.back q more).1)
          ];
          on = λ q on far. elim on [
            | inl at ↦ inl at
            | inr more ↦ inr (r.on q more far)
          ];
        }
  ]

  -- a place in the middle goes
  pub without_other : (from : Option ℕ) → IsIn old from before → IsPart old new from from (λ q. not (eqb q place))
  without_other from i =
      let r = less_from from i.0 i.1 i.2 in
      record {
        ends = (r.rest, r.chain);
        places = λ q. (
          (λ on. (let b = r.back q (in_list new from r.rest q r.chain on) in ((i.0, i.1, b.0), not_this q place b.1))),
          (λ both. (r.rest, r.chain, r.on q (in_list old from i.0 q i.1 both.0) (is_other q place both.1))),
        );
      }

-- ---- links

behind_to : (o : Option ℕ) → behind_of (link_to o) ≡ o
behind_to None = refl
behind_to (Some p) = refl

keyed_to : (o : Option ℕ) (key : ℕ) → key_by (link_to o) key ≡ Some key
keyed_to None key = refl
keyed_to (Some p) key = refl

pub keyed_by : (l : Link) (key : ℕ) → key_by l key ≢ None → key_by l key ≡ Some key
keyed_by Free key some = absurd (some refl)
keyed_by Last key some = refl
keyed_by (Before p) key some = refl

-- a place is written to lead to another chain
pub record IsLed (cells : List Cell) (p key : ℕ) (to : Option ℕ) : Type 0 where
  pub leads : next_at cells p ≡ to
  pub has : key_at cells p ≡ Some key

pub led : (cells : List Cell) (p : ℕ) (x : Cell) (to : Option ℕ) → p < length cells → x.link ≡ link_to to → IsLed (set cells p x) p x.key to
led cells p x to less link =
    let at : cell_at (set cells p x) p ≡ x = at_same cells p x less in
    record {
      leads = ap (λ (c : Cell). behind_of c.link) at ∙ ap behind_of link ∙ behind_to to;
      has = ap key_in at ∙ ap (λ (l : Link). key_by l x.key) link ∙ keyed_to to x.key;
    }

-- ---- dividing a chain

-- how far a chain is divided: what is left of it, and the places that the test said this and that
-- of
pub record IsDividing (old cells : List Cell) (first next one other : Option ℕ) (test : ℕ → Bool) (a b : Bool) : Type 0 where
  pub rest : Ends cells next
  pub ones : Ends cells one
  pub others : Ends cells other
  pub in_rest : (p : ℕ) → IsIn cells next p → IsIn old first p
  pub in_one : (p : ℕ) → IsIn cells one p → IsIn old first p × (test p ≡ a)
  pub in_other : (p : ℕ) → IsIn cells other p → IsIn old first p × (test p ≡ b)
  pub all : (p : ℕ) → IsIn old first p → IsIn cells next p ⊎ (IsIn cells one p ⊎ IsIn cells other p)
  pub apart : (p : ℕ) → IsIn cells next p → (IsIn cells one p → ⊥) × (IsIn cells other p → ⊥)
  pub keys : SameKeys old cells
  pub same : (p : ℕ) → (cell_at cells p).key ≡ (cell_at old p).key
  pub kept : KeepsOthers old cells first

pub dividing : (cells : List Cell) (first : Option ℕ) (test : ℕ → Bool) (a b : Bool) → Ends cells first → IsDividing cells cells first first None None test a b
dividing cells first test a b e = record {
  rest = e;
  ones = ([], refl);
  others = ([], refl);
  in_rest = λ p i. i;
  in_one = λ p i. absurd (none_in cells p i);
  in_other = λ p i. absurd (none_in cells p i);
  all = λ p i. inl i;
  apart = λ p i. (none_in cells p, none_in cells p);
  keys = λ p. refl;
  same = λ p. refl;
  kept = λ p out. refl;
}

-- the same, the other way round
turned : (old cells : List Cell) (first next one other : Option ℕ) (test : ℕ → Bool) (a b : Bool) → IsDividing old cells first next one other test a b → IsDividing old cells first next other one test b a
turned old cells first next one other test a b d = record {
  rest = d.rest;
  ones = d.others;
  others = d.ones;
  in_rest = d.in_rest;
  in_one = d.in_other;
  in_other = d.in_one;
  all = λ p i. elim (d.all p i) [
    | inl rest ↦ inl rest
    | inr part ↦ elim part [
      | inl f ↦ inr (inr f)
      | inr g ↦ inr (inl g)
    ]
  ];
  apart = λ p i. ((d.apart p i).1, (d.apart p i).0);
  keys = d.keys;
  same = d.same;
  kept = d.kept;
}

-- the next place goes to the second chain
pub to_other : (old cells : List Cell) (first : Option ℕ) (p : ℕ) (one other : Option ℕ) (test : ℕ → Bool) (a b : Bool) (x : Cell) → IsDividing old cells first (Some p) one other test a b → test p ≡ b → x.key ≡ (cell_at cells p).key → x.link ≡ link_to other → IsDividing old (set cells p x) first (next_at cells p) one (Some p) test a b
to_other old cells first p one other test a b x d is key link =
    let f : IsFront cells p = front cells p d.rest in
    let new : List Cell = set cells p x in
    let w : IsLed new p x.key other = led cells p x other (below cells p f.some) link in
    let far : (q : ℕ) → q ≢ p → cell_at new q ≡ cell_at cells q = at_other cells p x in
    let out = d.apart p f.first in
    let rest : SameChain cells new (next_at cells p) = kept cells new (next_at cells p) f.ends (λ q i. far q (λ e. f.apart q i (sym e))) in
    let ones : SameChain cells new one = kept cells new one d.ones (λ q i. far q (λ e. out.0 (subst (IsIn cells one) e i))) in
    let others : SameChain cells new other = kept cells new other d.others (λ q i. far q (λ e. out.1 (subst (IsIn cells other) e i))) in
    let from : (q : ℕ) → IsIn new (next_at new p) q → IsIn cells other q = λ q i. others.back q (subst (λ (o : Option ℕ). IsIn new o q) w.leads i) in
    let g : IsFront new p = put_first new p (λ e. absurd (let h : Some x.key ≡ None = sym w.has ∙ e in cc)) (subst (Ends new) (sym w.leads) others.ends) (λ i. out.1 (from p i)) in
    let has : key_at new p ≡ key_at cells p = w.has ∙ ap Some key ∙ sym (keyed_by (cell_at cells p).link (cell_at cells p).key f.some) in
    record {
      rest = rest.ends;
      ones = ones.ends;
      others = g.whole;
      in_rest = λ q i. d.in_rest q (f.behind q (rest.back q i));
      in_one = λ q i. d.in_one q (ones.back q i);
      in_other = λ q i. elim (g.cases q i) [
        | inl same ↦ subst (λ (n : ℕ). IsIn old first n × (test n ≡ b)) same (d.in_rest p f.first, is)
        | inr later ↦ d.in_other q (from q later)
      ];
      all = λ q i. elim (d.all q i) [
        | inl next ↦ elim (f.cases q next) [
          | inl same ↦ inr (inr (subst (IsIn new (Some p)) same g.first))
          | inr later ↦ inl (rest.on q later)
        ]
        | inr part ↦ elim part [
          | inl of ↦ inr (inl (ones.on q of))
          | inr of ↦ inr (inr (g.behind q (subst (λ (o : Option ℕ). IsIn new o q) (sym w.leads) (others.on q of))))
        ]
      ];
      apart = λ q i. (
        (λ of. (d.apart q (f.behind q (rest.back q i))).0 (ones.back q of)),
        (λ of. elim (g.cases q of) [
          | inl same ↦ f.apart q (rest.back q i) same
          | inr later ↦ (d.apart q (f.behind q (rest.back q i))).1 (from q later)
        ]),
      );
      keys = λ q. elim (cases_eq q p) [
        | inl same ↦ subst (λ (n : ℕ). key_at new n ≡ key_at old n) (sym same) (has ∙ d.keys p)
        | inr differs ↦ ap key_in (far q differs) ∙ d.keys q
      ];
      same = λ q. elim (cases_eq q p) [
        | inl same ↦ subst (λ (n : ℕ). (cell_at new n).key ≡ (cell_at old n).key) (sym same) (ap (λ (c : Cell). c.key) (at_same cells p x (below cells p f.some)) ∙ key ∙ d.same p)
        | inr differs ↦ ap (λ (c : Cell). c.key) (far q differs) ∙ d.same q
      ];
      kept = λ q out. far q (λ e. out (subst (IsIn old first) (sym e) (d.in_rest p f.first))) ∙ d.kept q out;
    }

-- one place less is left
pub less_on : (old cells : List Cell) (first : Option ℕ) (p : ℕ) (one other : Option ℕ) (test : ℕ → Bool) (a b : Bool) (x : Cell) → IsDividing old cells first (Some p) one other test a b → left (set cells p x) (next_at cells p) < left cells (Some p)
less_on old cells first p one other test a b x d =
    let f : IsFront cells p = front cells p d.rest in
    let rest : SameChain cells (set cells p x) (next_at cells p) = kept cells (set cells p x) (next_at cells p) f.ends (λ q i. at_other cells p x q (λ e. f.apart q i (sym e))) in
    omega (arith, rest.left, f.less)

-- the next place goes to the first chain
pub to_one : (old cells : List Cell) (first : Option ℕ) (p : ℕ) (one other : Option ℕ) (test : ℕ → Bool) (a b : Bool) (x : Cell) → IsDividing old cells first (Some p) one other test a b → test p ≡ a → x.key ≡ (cell_at cells p).key → x.link ≡ link_to one → IsDividing old (set cells p x) first (next_at cells p) (Some p) other test a b
to_one old cells first p one other test a b x d is key link = turned _ _ _ _ _ _ _ _ _ (to_other old cells first p other one test b a x (turned _ _ _ _ _ _ _ _ _ d) is key link)

-- a divided chain: the second part has the places that the test said so of
pub part_other : (old cells : List Cell) (first one other : Option ℕ) (test : ℕ → Bool) → IsDividing old cells first None one other test false true → IsPart old cells first other test
part_other old cells first one other test d = record {
  ends = d.others;
  places = λ p. (
    d.in_other p,
    (λ both. elim (d.all p both.0) [
      | inl none ↦ absurd (none_in cells p none)
      | inr part ↦ elim part [
        | inl of ↦ (let f : test p ≡ false = (d.in_one p of).1 in let t : test p ≡ true = both.1 in absurd (cc))
        | inr of ↦ of
      ]
    ]),
  );
}

-- and the first one those that it didn't
pub part_one : (old cells : List Cell) (first one other : Option ℕ) (test : ℕ → Bool) → IsDividing old cells first None one other test false true → IsPart old cells first one (λ p. not (test p))
part_one old cells first one other test d = record {
  ends = d.ones;
  places = λ p. (
    (λ of. ((d.in_one p of).0, not_from_false (test p) (d.in_one p of).1)),
    (λ both. elim (d.all p both.0) [
      | inl none ↦ absurd (none_in cells p none)
      | inr part ↦ elim part [
        | inl of ↦ of
        | inr of ↦ (let f : not (test p) ≡ false = not_from_true (test p) (d.in_other p of).1 in let t : not (test p) ≡ true = both.1 in absurd (cc))
      ]
    ]),
  );
}

-- ---- a place in the middle of a chain

same_link : (l : Link) (key other : ℕ) → key_by l key ≢ None → key_by l other ≡ Some other
same_link Free key other some = absurd (some refl)
same_link Last key other some = refl
same_link (Before p) key other some = refl

-- the cells once the place before another leads past it
abbrev pub cut : List Cell → ℕ → ℕ → List Cell
cut cells before place = set cells before (record { key = (cell_at cells before).key; link = (cell_at cells place).link })

pub cut_keys : (cells : List Cell) (from : Option ℕ) (before place : ℕ) → IsIn cells from before → IsIn cells from place → SameKeys cells (cut cells before place)
cut_keys cells from before place b p q =
    let x : Cell = record { key = (cell_at cells before).key; link = (cell_at cells place).link } in
    let some : key_at cells before ≢ None = in_some cells from before b in
    elim (cases_eq q before) [
      | inl same ↦
          subst (λ (n : ℕ). key_at (cut cells before place) n ≡ key_at cells n) (sym same)
          (ap key_in (at_same cells before x (below cells before some))
          ∙ same_link (cell_at cells place).link (cell_at cells place).key (cell_at cells before).key (in_some cells from place p)
          ∙ sym (keyed_by (cell_at cells before).link (cell_at cells before).key some))
      | inr other ↦ ap key_in (at_other cells before x q other)
    ]

pub cut_part : (cells : List Cell) (from : Option ℕ) (before place : ℕ) → IsIn cells from before → IsIn cells from place → next_at cells before ≡ Some place → IsPart cells (cut cells before place) from from (λ q. not (eqb q place))
cut_part cells from before place b p leads =
    let x : Cell = record { key = (cell_at cells before).key; link = (cell_at cells place).link } in
    let some : key_at cells before ≢ None = in_some cells from before b in
    without_other cells (cut cells before place) before place leads
    (ap (λ (c : Cell). behind_of c.link) (at_same cells before x (below cells before some)))
    (λ e. some (sym (cut_keys cells from before place b p before) ∙ e))
    (at_other cells before x) from b

-- where a chain begins, there is a cell
pub first_below : (cells : List Cell) (first : Option ℕ) (limit : ℕ) → Ends cells first → length cells < limit → (p : ℕ) → first ≡ Some p → p < limit - 1
first_below cells first limit ends few p e = (let f = front cells p (subst (Ends cells) e ends) in omega (arith, below cells p f.some))
