-- Lists stay threaded when an entry is added or taken off.
use Rattle.std.proofs.Common.{◌≡◌, ◌≢◌, ℕ, zero, suc, ◌==◌, cond, ◌+◌, ◌-◌, ◌<◌, ◌≤◌, ◌^◌, List, length, get_or, set, map, Option, Some, None, refl, sym, ap, ◌∙◌, subst, arith, inl, inr, ◌⊎◌, length-set}
use Rattle.std.specs.Prelude.{count_by}
use Rattle.std.proofs.lemmas.Bool.{cases_eq, cond-true, cond-false}
use Rattle.std.proofs.lemmas.List.{get_or-set_same, get_or-set_other, map-set, get_or-map, length-map}
use Rattle.std.proofs.lemmas.List.Sums.{count_by-le-length}
use Rattle.vm_ids.proofs.Places.{count_some, bit, bit_true, bit_false, count-set, same_number, other_number}
use Rattle.page_tables.specs.Membership.{is_on}
use Rattle.page_tables.specs.Links.{list_in, loose, link_of, with_before, with_behind, heads_past}
use Rattle.page_tables.specs.Threads.{head_of, IsMember, IsThreaded}
use Rattle.page_tables.specs.declared.lists.Link.{Link}
use Rattle.page_tables.proofs.Columns.{is_this, on_below, length-with_before, length-with_behind, lists-with_before, lists-with_behind, list-with_before, behind-with_before, list-with_behind, before-with_behind, before-with_before-hit, before-with_before-miss, behind-with_behind-hit, behind-with_behind-miss, length-heads_past, heads_past-at, heads_past-other, heads_past-kept}

-- a list that has no first entry has none
pub none_listed : (heads : List (Option ℕ)) (counts : List ℕ) (links : List Link) (t : IsThreaded heads counts links) (list : ℕ) → head_of heads list ≡ None → (n i : ℕ) → t.rank i < n → (link_of links i).list ≡ Some list → ⊥
none_listed heads counts links t list empty zero i below on = absurd (omega arith)
none_listed heads counts links t list empty (suc n) i below on =
    by_before (λ b less on_b. none_listed heads counts links t list empty n b (omega arith) on_b) ((link_of links i).before) refl where
      by_before : ((b : ℕ) → t.rank b < t.rank i → (link_of links b).list ≡ Some list → ⊥) → (b : Option ℕ) → (link_of links i).before ≡ b → ⊥
      by_before more None e = (let f : head_of heads list ≡ Some i = (t.members list i on).front e in absurd (cc))
      by_before more (Some b) e = (let m = (t.members list i on).before b e in more b m.2 m.0)

one_of_two : (a : Option ℕ) (x y : ℕ) → a ≡ Some x → a ≡ Some y → x ≡ y
one_of_two a x y p q = let e : Some x ≡ Some y = sym p ∙ q in cc

-- the list of each entry, where one was put on a list or taken off
list_at : (links : List Link) (x : ℕ) (y : Link) (i : ℕ) → i ≢ x → link_of (set links x y) i ≡ link_of links i
list_at links x y i d = get_or-set_other links x i y loose d

-- the links of the others once x is off its list
record IsCut (links new : List Link) (x : ℕ) : Type 0 where
  pub gone : (link_of new x).list ≡ None
  pub lists : (i : ℕ) → i ≢ x → (link_of new i).list ≡ (link_of links i).list
  pub before_hit : (i : ℕ) → i ≢ x → i < length links → (link_of links x).behind ≡ Some i → (link_of new i).before ≡ (link_of links x).before
  pub before_miss : (i : ℕ) → i ≢ x → (link_of links x).behind ≢ Some i → (link_of new i).before ≡ (link_of links i).before
  pub behind_hit : (i : ℕ) → i ≢ x → i < length links → (link_of links x).before ≡ Some i → (link_of new i).behind ≡ (link_of links x).behind
  pub behind_miss : (i : ℕ) → i ≢ x → (link_of links x).before ≢ Some i → (link_of new i).behind ≡ (link_of links i).behind

cut_out : List Link → ℕ → List Link
cut_out links x = set (with_before (with_behind links (link_of links x).before (link_of links x).behind) (link_of links x).behind (link_of links x).before) x loose

is_cut : (links : List Link) (x : ℕ) → x < length links → IsCut links (set (with_before (with_behind links (link_of links x).before (link_of links x).behind) (link_of links x).behind (link_of links x).before) x loose) x
is_cut links x h =
    let b : Option ℕ = (link_of links x).before in
    let a : Option ℕ = (link_of links x).behind in
    let one : List Link = with_behind links b a in
    let two : List Link = with_before one a b in
    let len : length two ≡ length links = length-with_before one a b ∙ length-with_behind links b a in
    record {
      gone = ap (λ (l : Link). l.list) (get_or-set_same two x loose loose (omega arith));
      lists = λ i d. ap (λ (l : Link). l.list) (list_at two x loose i d) ∙ list-with_before one a b i ∙ list-with_behind links b a i;
      before_hit = λ i d w e. ap (λ (l : Link). l.before) (list_at two x loose i d) ∙ before-with_before-hit one a b i e (omega (arith, length-with_behind links b a));
      before_miss = λ i d m. ap (λ (l : Link). l.before) (list_at two x loose i d) ∙ before-with_before-miss one a b i m ∙ before-with_behind links b a i;
      behind_hit = λ i d w e. ap (λ (l : Link). l.behind) (list_at two x loose i d) ∙ behind-with_before one a b i ∙ behind-with_behind-hit links b a i e w;
      behind_miss = λ i d m. ap (λ (l : Link). l.behind) (list_at two x loose i d) ∙ behind-with_before one a b i ∙ behind-with_behind-miss links b a i m;
    }

cut-member : (heads : List (Option ℕ)) (counts : List ℕ) (links new : List Link) (t : IsThreaded heads counts links) (list x : ℕ) → (link_of links x).list ≡ Some list → IsCut links new x → (k i : ℕ) → (link_of new i).list ≡ Some k → IsMember (heads_past heads list (link_of links x).before (link_of links x).behind) new t.rank k i
cut-member heads counts links new t list x onx c k i on' = record {
  known = omega (arith, mi.known, length-heads_past heads list bx ax);
  front = λ e. elim (is_this ax i) [
    | inl hit ↦ (
        let b_none : bx ≡ None = sym (c.before_hit i apart within hit) ∙ e in
        let same : list ≡ k = one_of_two ((link_of links i).list) list k ((mx.behind i hit).0) on in
        subst (λ (n : ℕ). head_of new_heads n ≡ Some i) same (heads_past-at heads list bx ax mx.known b_none ∙ hit))
    | inr miss ↦ (
        let was : head_of heads k ≡ Some i = mi.front (sym (c.before_miss i apart miss) ∙ e) in
        elim (cases_eq k list) [
          | inr other ↦ heads_past-other heads list bx ax k other ∙ was
          | inl same ↦ heads_past-kept heads list bx ax k (λ none. apart (one_of_two (head_of heads list) i x (ap (head_of heads) (sym same) ∙ was) (mx.front none))) ∙ was
        ])
  ];
  before = λ b e. elim (is_this ax i) [
    | inl hit ↦ (
        let was : bx ≡ Some b = sym (c.before_hit i apart within hit) ∙ e in
        let same : list ≡ k = one_of_two ((link_of links i).list) list k ((mx.behind i hit).0) on in
        let p = mx.before b was in
        let q = mi.before x ((mx.behind i hit).1) in
        let other : b ≢ x = λ s. no_less t.rank b x s p.2 in
        (c.lists b other ∙ p.0 ∙ ap (λ (n : ℕ). Some n) same, c.behind_hit b other (on_below links b list p.0) was ∙ hit, omega (arith, p.2, q.2)))
    | inr miss ↦ (
        let was : (link_of links i).before ≡ Some b = sym (c.before_miss i apart miss) ∙ e in
        let p = mi.before b was in
        let other : b ≢ x = λ s. miss (ap (λ (n : ℕ). (link_of links n).behind) (sym s) ∙ p.1) in
        let far : bx ≢ Some b = λ s. apart (one_of_two ((link_of links b).behind) i x p.1 ((mx.before b s).1)) in
        (c.lists b other ∙ p.0, c.behind_miss b other far ∙ p.1, p.2))
  ];
  behind = λ b e. elim (is_this bx i) [
    | inl hit ↦ (
        let was : ax ≡ Some b = sym (c.behind_hit i apart within hit) ∙ e in
        let same : list ≡ k = one_of_two ((link_of links i).list) list k ((mx.before i hit).0) on in
        let p = mx.behind b was in
        let q = (t.members list b p.0).before x p.1 in
        let other : b ≢ x = λ s. no_less t.rank x b (sym s) q.2 in
        (c.lists b other ∙ p.0 ∙ ap (λ (n : ℕ). Some n) same, c.before_hit b other (on_below links b list p.0) was ∙ hit))
    | inr miss ↦ (
        let was : (link_of links i).behind ≡ Some b = sym (c.behind_miss i apart miss) ∙ e in
        let p = mi.behind b was in
        let other : b ≢ x = λ s. miss (ap (λ (n : ℕ). (link_of links n).before) (sym s) ∙ p.1) in
        let far : ax ≢ Some b = λ s. apart (one_of_two ((link_of links b).before) i x p.1 ((mx.behind b s).1)) in
        (c.lists b other ∙ p.0, c.before_miss b other far ∙ p.1))
  ];
} where
  bx : Option ℕ
  bx = (link_of links x).before

  ax : Option ℕ
  ax = (link_of links x).behind

  new_heads : List (Option ℕ)
  new_heads = heads_past heads list bx ax

  no_less : (rank : ℕ → ℕ) (m n : ℕ) → m ≡ n → rank m < rank n → ⊥
  no_less rank m n e h = let same : rank m ≡ rank n = ap rank e in omega arith

  apart : i ≢ x
  apart e = (let none : (link_of new i).list ≡ None = ap (λ (n : ℕ). (link_of new n).list) e ∙ c.gone in absurd (cc))

  on : (link_of links i).list ≡ Some k
  on = sym (c.lists i apart) ∙ on'

  within : i < length links
  within = on_below links i k on

  mx : IsMember heads links t.rank list x
  mx = t.members list x onx

  mi : IsMember heads links t.rank k i
  mi = t.members k i on

cut-first : (heads : List (Option ℕ)) (counts : List ℕ) (links new : List Link) (t : IsThreaded heads counts links) (list x : ℕ) → (link_of links x).list ≡ Some list → IsCut links new x → (k i : ℕ) → head_of (heads_past heads list (link_of links x).before (link_of links x).behind) k ≡ Some i → ((link_of new i).list ≡ Some k) × ((link_of new i).before ≡ None)
cut-first heads counts links new t list x onx c k i e = elim (is_none bx) [
  | inr some ↦ kept (sym (heads_past-kept heads list bx ax k some) ∙ e) (λ _. some)
  | inl none ↦ elim (cases_eq k list) [
    | inr other ↦ kept (sym (heads_past-other heads list bx ax k other) ∙ e) (λ same. absurd (other same))
    | inl same ↦ (
        let was : ax ≡ Some i = sym (heads_past-at heads list bx ax mx.known none) ∙ ap (head_of (heads_past heads list bx ax)) (sym same) ∙ e in
        let p = mx.behind i was in
        let q = (t.members list i p.0).before x p.1 in
        let apart : i ≢ x = λ s. no_less t.rank x i (sym s) q.2 in
        (c.lists i apart ∙ p.0 ∙ ap (λ (n : ℕ). Some n) (sym same), c.before_hit i apart (on_below links i list p.0) was ∙ none))
  ]
] where
  bx : Option ℕ
  bx = (link_of links x).before

  ax : Option ℕ
  ax = (link_of links x).behind

  is_none : (o : Option ℕ) → (o ≡ None) ⊎ (o ≢ None)
  is_none None = inl refl
  is_none (Some b) = inr (λ s. absurd (cc))

  no_less : (rank : ℕ → ℕ) (m n : ℕ) → m ≡ n → rank m < rank n → ⊥
  no_less rank m n s h = let same : rank m ≡ rank n = ap rank s in omega arith

  mx : IsMember heads links t.rank list x
  mx = t.members list x onx

  kept : head_of heads k ≡ Some i → (k ≡ list → bx ≢ None) → ((link_of new i).list ≡ Some k) × ((link_of new i).before ≡ None)
  kept was some =
      let f = t.first k i was in
      let apart : i ≢ x = λ s. some (one_of_two ((link_of links x).list) k list (ap (λ (n : ℕ). (link_of links n).list) (sym s) ∙ f.0) onx) (ap (λ (n : ℕ). (link_of links n).before) (sym s) ∙ f.1) in
      let far : ax ≢ Some i = λ s. some_none x ((mx.behind i s).1) f.1 in
      (c.lists i apart ∙ f.0, c.before_miss i apart far ∙ f.1) where
        some_none : (n : ℕ) → (link_of links i).before ≡ Some n → (link_of links i).before ≡ None → ⊥
        some_none n p q = (let z : Some n ≡ None = sym p ∙ q in absurd (cc))

-- how many are on a list once one entry went from one place to another
count_moved : (on : List (Option ℕ)) (x k : ℕ) (y : Option ℕ) → x < length on → count_by (is_on k) (set on x y) + bit (is_on k (get_or on x None)) ≡ count_by (is_on k) on + bit (is_on k y)
count_moved on x k y h = count-set (is_on k) on x y None h

bit_own : (k : ℕ) (o : Option ℕ) → o ≡ Some k → bit (is_on k o) ≡ 1
bit_own k o e = ap (λ (p : Option ℕ). bit (is_on k p)) e ∙ bit_true (k == k) (same_number k)

bit_other : (k l : ℕ) (o : Option ℕ) → o ≡ Some l → k ≢ l → bit (is_on k o) ≡ 0
bit_other k l o e d = ap (λ (p : Option ℕ). bit (is_on k p)) e ∙ bit_false (l == k) (other_number l k (λ s. d (sym s)))

bit_loose : (k : ℕ) (o : Option ℕ) → o ≡ None → bit (is_on k o) ≡ 0
bit_loose k o e = ap (λ (p : Option ℕ). bit (is_on k p)) e

pub lists-cut : (links : List Link) (x : ℕ) (b a : Option ℕ) → map list_in (set (with_before (with_behind links b a) a b) x loose) ≡ set (map list_in links) x None
lists-cut links x b a =
    map-set list_in (with_before (with_behind links b a) a b) x loose
    ∙ ap (λ (on : List (Option ℕ)). set on x None) (lists-with_before (with_behind links b a) a b ∙ lists-with_behind links b a)

cut-counted : (heads : List (Option ℕ)) (counts : List ℕ) (links : List Link) (t : IsThreaded heads counts links) (list x k : ℕ) → (link_of links x).list ≡ Some list → k < length heads → get_or (set counts list (get_or counts list 0 - 1)) k 0 ≡ count_by (is_on k) (set (map list_in links) x None)
cut-counted heads counts links t list x k onx known =
    let within : x < length links = on_below links x list onx in
    let on : List (Option ℕ) = map list_in links in
    let moved : count_by (is_on k) (set on x None) + bit (is_on k (get_or on x None)) ≡ count_by (is_on k) on + 0 = count_moved on x k None (omega (arith, length-map links list_in)) in
    let at : get_or on x None ≡ Some list = get_or-map list_in links x loose None within ∙ onx in
    let was : get_or counts k 0 ≡ count_by (is_on k) on = t.counted k known in
    elim (cases_eq k list) [
      | inl same ↦ (
          let own : bit (is_on k (get_or on x None)) ≡ 1 = bit_own k (get_or on x None) (at ∙ ap (λ (n : ℕ). Some n) (sym same)) in
          let now : get_or (set counts list (get_or counts list 0 - 1)) list 0 ≡ get_or counts list 0 - 1 = get_or-set_same counts list (get_or counts list 0 - 1) 0 (omega (arith, t.counts_length)) in
          let of : get_or counts list 0 ≡ get_or counts k 0 = ap (λ (n : ℕ). get_or counts n 0) (sym same) in
          ap (λ (n : ℕ). get_or (set counts list (get_or counts list 0 - 1)) n 0) same ∙ omega arith)
      | inr other ↦ (
          let none : bit (is_on k (get_or on x None)) ≡ 0 = bit_other k list (get_or on x None) at other in
          get_or-set_other counts list k (get_or counts list 0 - 1) 0 other ∙ omega arith)
    ]

-- an entry is taken off its list
pub taken_off : (heads : List (Option ℕ)) (counts : List ℕ) (links : List Link) (list x : ℕ) → IsThreaded heads counts links → (link_of links x).list ≡ Some list → IsThreaded (heads_past heads list (link_of links x).before (link_of links x).behind) (set counts list (get_or counts list 0 - 1)) (set (with_before (with_behind links (link_of links x).before (link_of links x).behind) (link_of links x).behind (link_of links x).before) x loose)
taken_off heads counts links list x t onx =
    let b : Option ℕ = (link_of links x).before in
    let a : Option ℕ = (link_of links x).behind in
    let one : List Link = with_behind links b a in
    let two : List Link = with_before one a b in
    let c : IsCut links (set two x loose) x = is_cut links x (on_below links x list onx) in
    record {
      rank = t.rank;
      few = omega (arith, t.few, length-set two x loose, length-with_before one a b, length-with_behind links b a);
      counts_length = omega (arith, t.counts_length, length-heads_past heads list b a, length-set counts list (get_or counts list 0 - 1));
      counted = λ k known. cut-counted heads counts links t list x k onx (omega (arith, length-heads_past heads list b a)) ∙ sym (ap (count_by (is_on k)) (lists-cut links x b a));
      first = cut-first heads counts links (set two x loose) t list x onx c;
      members = cut-member heads counts links (set two x loose) t list x onx c;
    }

-- the links of the others once x is at the front of its list, before the entry that was there
record IsAdded (links new : List Link) (front : Option ℕ) (list x : ℕ) : Type 0 where
  pub here : link_of new x ≡ record { list = Some list; before = None; behind = front }
  pub lists : (i : ℕ) → i ≢ x → (link_of new i).list ≡ (link_of links i).list
  pub hit : (i : ℕ) → i ≢ x → i < length links → front ≡ Some i → (link_of new i).before ≡ Some x
  pub miss : (i : ℕ) → i ≢ x → front ≢ Some i → (link_of new i).before ≡ (link_of links i).before
  pub behind : (i : ℕ) → i ≢ x → (link_of new i).behind ≡ (link_of links i).behind

is_added : (links : List Link) (front : Option ℕ) (list x : ℕ) → x < length links → IsAdded links (set (with_before links front (Some x)) x (record { list = Some list; before = None; behind = front })) front list x
is_added links front list x h =
    let y : Link = record { list = Some list; before = None; behind = front } in
    let one : List Link = with_before links front (Some x) in
    record {
      here = get_or-set_same one x y loose (omega (arith, length-with_before links front (Some x)));
      lists = λ i d. ap (λ (l : Link). l.list) (list_at one x y i d) ∙ list-with_before links front (Some x) i;
      hit = λ i d w e. ap (λ (l : Link). l.before) (list_at one x y i d) ∙ before-with_before-hit links front (Some x) i e w;
      miss = λ i d m. ap (λ (l : Link). l.before) (list_at one x y i d) ∙ before-with_before-miss links front (Some x) i m;
      behind = λ i d. ap (λ (l : Link). l.behind) (list_at one x y i d) ∙ behind-with_before links front (Some x) i;
    }

-- one more than before, and the new front below all
rank_above : ℕ → (ℕ → ℕ) → ℕ → ℕ
rank_above x rank i = cond (i == x) 0 (1 + rank i)

rank-front : (x : ℕ) (rank : ℕ → ℕ) (i : ℕ) → i ≡ x → rank_above x rank i ≡ 0
unfolding rank_above
rank-front x rank i e = cond-true (i == x) 0 (1 + rank i) (ap (λ (n : ℕ). n == x) e ∙ same_number x)

rank-others : (x : ℕ) (rank : ℕ → ℕ) (i : ℕ) → i ≢ x → rank_above x rank i ≡ 1 + rank i
unfolding rank_above
rank-others x rank i d = cond-false (i == x) 0 (1 + rank i) (other_number i x d)

set_head-same : (heads : List (Option ℕ)) (list x k : ℕ) → list < length heads → k ≡ list → head_of (set heads list (Some x)) k ≡ Some x
set_head-same heads list x k h e = ap (head_of (set heads list (Some x))) e ∙ get_or-set_same heads list (Some x) None h

set_head-other : (heads : List (Option ℕ)) (list x k : ℕ) → k ≢ list → head_of (set heads list (Some x)) k ≡ head_of heads k
set_head-other heads list x k d = get_or-set_other heads list k (Some x) None d

-- the new front on its list
added-here : (heads : List (Option ℕ)) (counts : List ℕ) (links new : List Link) (t : IsThreaded heads counts links) (list x : ℕ) → list < length heads → (link_of links x).list ≡ None → IsAdded links new (head_of heads list) list x → IsMember (set heads list (Some x)) new (rank_above x t.rank) list x
added-here heads counts links new t list x h loose_x c = record {
  known = omega (arith, length-set heads list (Some x));
  front = λ e. set_head-same heads list x list h refl;
  before = λ b e. absurd (none_some b (ap (λ (l : Link). l.before) c.here) e);
  behind = λ b e. (
      let front : head_of heads list ≡ Some b = sym (ap (λ (l : Link). l.behind) c.here) ∙ e in
      let f = t.first list b front in
      let apart : b ≢ x = λ s. none_some_list list (ap (λ (n : ℕ). (link_of links n).list) s ∙ loose_x) f.0 in
      (c.lists b apart ∙ f.0, c.hit b apart (on_below links b list f.0) front));
} where
  none_some : (b : ℕ) → (link_of new x).before ≡ None → (link_of new x).before ≡ Some b → ⊥
  none_some b p q = (let z : None ≡ Some b = sym p ∙ q in absurd (cc))

  none_some_list : (n : ℕ) → {o : Option ℕ} → o ≡ None → o ≡ Some n → ⊥
  none_some_list n p q = (let z : None ≡ Some n = sym p ∙ q in absurd (cc))

-- the others
added-other : (heads : List (Option ℕ)) (counts : List ℕ) (links new : List Link) (t : IsThreaded heads counts links) (list x : ℕ) → list < length heads → (link_of links x).list ≡ None → IsAdded links new (head_of heads list) list x → (k i : ℕ) → i ≢ x → (link_of links i).list ≡ Some k → IsMember (set heads list (Some x)) new (rank_above x t.rank) k i
added-other heads counts links new t list x h loose_x c k i apart on = record {
  known = omega (arith, mi.known, length-set heads list (Some x));
  front = λ e. elim (is_this (head_of heads list) i) [
    | inl hit ↦ absurd (none_some x e (c.hit i apart (on_below links i k on) hit))
    | inr miss ↦ (
        let was : head_of heads k ≡ Some i = mi.front (sym (c.miss i apart miss) ∙ e) in
        let other : k ≢ list = λ s. miss (ap (head_of heads) (sym s) ∙ was) in
        set_head-other heads list x k other ∙ was)
  ];
  before = λ b e. elim (is_this (head_of heads list) i) [
    | inl hit ↦ (
        let at : x ≡ b = one_of_two ((link_of new i).before) x b (c.hit i apart (on_below links i k on) hit) e in
        let same : list ≡ k = one_of_two ((link_of links i).list) list k ((t.first list i hit).0) on in (
          ap (λ (n : ℕ). (link_of new n).list) (sym at) ∙ ap (λ (l : Link). l.list) c.here ∙ ap (λ (n : ℕ). Some n) same,
          ap (λ (n : ℕ). (link_of new n).behind) (sym at) ∙ ap (λ (l : Link). l.behind) c.here ∙ hit,
          omega (arith, rank-front x t.rank b (sym at), rank-others x t.rank i apart),
        ))
    | inr miss ↦ (
        let p = mi.before b (sym (c.miss i apart miss) ∙ e) in
        let other : b ≢ x = not_x b p.0 in
        (c.lists b other ∙ p.0, c.behind b other ∙ p.1, omega (arith, p.2, rank-others x t.rank b other, rank-others x t.rank i apart)))
  ];
  behind = λ b e. (
      let p = mi.behind b (sym (c.behind i apart) ∙ e) in
      let other : b ≢ x = not_x b p.0 in
      let far : head_of heads list ≢ Some b = λ s. none_some_at i b ((t.first list b s).1) p.1 in
      (c.lists b other ∙ p.0, c.miss b other far ∙ p.1));
} where
  mi : IsMember heads links t.rank k i
  mi = t.members k i on

  none_some : (b : ℕ) → (link_of new i).before ≡ None → (link_of new i).before ≡ Some b → ⊥
  none_some b p q = (let z : None ≡ Some b = sym p ∙ q in absurd (cc))

  none_some_at : (n b : ℕ) → (link_of links b).before ≡ None → (link_of links b).before ≡ Some n → ⊥
  none_some_at n b p q = (let z : None ≡ Some n = sym p ∙ q in absurd (cc))

  not_x : (b : ℕ) → (link_of links b).list ≡ Some k → b ≢ x
  not_x b p s = (let z : Some k ≡ None = sym p ∙ ap (λ (n : ℕ). (link_of links n).list) s ∙ loose_x in absurd (cc))

added-member : (heads : List (Option ℕ)) (counts : List ℕ) (links new : List Link) (t : IsThreaded heads counts links) (list x : ℕ) → list < length heads → (link_of links x).list ≡ None → IsAdded links new (head_of heads list) list x → (k i : ℕ) → (link_of new i).list ≡ Some k → IsMember (set heads list (Some x)) new (rank_above x t.rank) k i
added-member heads counts links new t list x h loose_x c k i on = elim (cases_eq i x) [
  | inr apart ↦ added-other heads counts links new t list x h loose_x c k i apart (sym (c.lists i apart) ∙ on)
  | inl same ↦ (
      let at : (link_of new i).list ≡ Some list = ap (λ (n : ℕ). (link_of new n).list) same ∙ ap (λ (l : Link). l.list) c.here in
      let P : ℕ → ℕ → Type 0 = λ l n. IsMember (set heads list (Some x)) new (rank_above x t.rank) l n in
      let here : P list i = subst (λ (n : ℕ). P list n) (sym same) (added-here heads counts links new t list x h loose_x c) in
      subst (λ (l : ℕ). P l i) (one_of_two ((link_of new i).list) list k at on) here)
]

added-first : (heads : List (Option ℕ)) (counts : List ℕ) (links new : List Link) (t : IsThreaded heads counts links) (list x : ℕ) → list < length heads → (link_of links x).list ≡ None → IsAdded links new (head_of heads list) list x → (k i : ℕ) → head_of (set heads list (Some x)) k ≡ Some i → ((link_of new i).list ≡ Some k) × ((link_of new i).before ≡ None)
added-first heads counts links new t list x h loose_x c k i e = elim (cases_eq k list) [
  | inl same ↦ (
      let at : x ≡ i = one_of_two (head_of (set heads list (Some x)) k) x i (set_head-same heads list x k h same) e in (
        ap (λ (n : ℕ). (link_of new n).list) (sym at) ∙ ap (λ (l : Link). l.list) c.here ∙ ap (λ (n : ℕ). Some n) (sym same),
        ap (λ (n : ℕ). (link_of new n).before) (sym at) ∙ ap (λ (l : Link). l.before) c.here,
      ))
  | inr other ↦ (
      let f = t.first k i (sym (set_head-other heads list x k other) ∙ e) in
      let apart : i ≢ x = λ s. some_none ((link_of links i).list) f.0 (ap (λ (n : ℕ). (link_of links n).list) s ∙ loose_x) in
      let far : head_of heads list ≢ Some i = λ s. other (one_of_two ((link_of links i).list) k list f.0 ((t.first list i s).0)) in
      (c.lists i apart ∙ f.0, c.miss i apart far ∙ f.1))
] where
  some_none : (o : Option ℕ) → o ≡ Some k → o ≡ None → ⊥
  some_none o p q = (let z : Some k ≡ None = sym p ∙ q in absurd (cc))

pub lists-added : (links : List Link) (x list : ℕ) (front : Option ℕ) → map list_in (set (with_before links front (Some x)) x (record { list = Some list; before = None; behind = front })) ≡ set (map list_in links) x (Some list)
lists-added links x list front =
    map-set list_in (with_before links front (Some x)) x (record { list = Some list; before = None; behind = front })
    ∙ ap (λ (on : List (Option ℕ)). set on x (Some list)) (lists-with_before links front (Some x))

added-counted : (heads : List (Option ℕ)) (counts : List ℕ) (links : List Link) (t : IsThreaded heads counts links) (list x k : ℕ) → list < length heads → x < length links → (link_of links x).list ≡ None → k < length heads → get_or (set counts list (get_or counts list 0 + 1)) k 0 ≡ count_by (is_on k) (set (map list_in links) x (Some list))
added-counted heads counts links t list x k h within loose_x known =
    let on : List (Option ℕ) = map list_in links in
    let moved : count_by (is_on k) (set on x (Some list)) + bit (is_on k (get_or on x None)) ≡ count_by (is_on k) on + bit (is_on k (Some list)) = count_moved on x k (Some list) (omega (arith, length-map links list_in)) in
    let at : get_or on x None ≡ None = get_or-map list_in links x loose None within ∙ loose_x in
    let out : bit (is_on k (get_or on x None)) ≡ 0 = bit_loose k (get_or on x None) at in
    let was : get_or counts k 0 ≡ count_by (is_on k) on = t.counted k known in
    elim (cases_eq k list) [
      | inl same ↦ (
          let own : bit (is_on k (Some list)) ≡ 1 = bit_own k (Some list) (ap (λ (n : ℕ). Some n) (sym same)) in
          let now : get_or (set counts list (get_or counts list 0 + 1)) list 0 ≡ get_or counts list 0 + 1 = get_or-set_same counts list (get_or counts list 0 + 1) 0 (omega (arith, t.counts_length)) in
          let of : get_or counts list 0 ≡ get_or counts k 0 = ap (λ (n : ℕ). get_or counts n 0) (sym same) in
          ap (λ (n : ℕ). get_or (set counts list (get_or counts list 0 + 1)) n 0) same ∙ omega arith)
      | inr other ↦ (
          let none : bit (is_on k (Some list)) ≡ 0 = bit_other k list (Some list) refl other in
          get_or-set_other counts list k (get_or counts list 0 + 1) 0 other ∙ omega arith)
    ]

-- an entry that is on no list is put on one
pub added : (heads : List (Option ℕ)) (counts : List ℕ) (links : List Link) (list x : ℕ) → IsThreaded heads counts links → list < length heads → x < length links → (link_of links x).list ≡ None → IsThreaded (set heads list (Some x)) (set counts list (get_or counts list 0 + 1)) (set (with_before links (head_of heads list) (Some x)) x (record { list = Some list; before = None; behind = head_of heads list }))
added heads counts links list x t h within loose_x =
    let front : Option ℕ = head_of heads list in
    let y : Link = record { list = Some list; before = None; behind = front } in
    let new : List Link = set (with_before links front (Some x)) x y in
    let c : IsAdded links new front list x = is_added links front list x within in
    record {
      rank = rank_above x t.rank;
      few = omega (arith, t.few, length-set (with_before links front (Some x)) x y, length-with_before links front (Some x));
      counts_length = omega (arith, t.counts_length, length-set heads list (Some x), length-set counts list (get_or counts list 0 + 1));
      counted = λ k known. added-counted heads counts links t list x k h within loose_x (omega (arith, length-set heads list (Some x))) ∙ sym (ap (count_by (is_on k)) (lists-added links x list front));
      first = added-first heads counts links new t list x h loose_x c;
      members = added-member heads counts links new t list x h loose_x c;
    }

-- the count of a list is below what 32 bits hold
pub count_few : (heads : List (Option ℕ)) (counts : List ℕ) (links : List Link) (list : ℕ) → IsThreaded heads counts links → list < length heads → get_or counts list 0 ≤ 2 ^ 18
count_few heads counts links list t h = omega (arith, t.counted list h, t.few, count_by-le-length (is_on list) (map list_in links), length-map links list_in)

-- an entry that is on a list counts there
pub count_one : (heads : List (Option ℕ)) (counts : List ℕ) (links : List Link) (list x : ℕ) → IsThreaded heads counts links → (link_of links x).list ≡ Some list → 1 ≤ get_or counts list 0
count_one heads counts links list x t onx =
    let on : List (Option ℕ) = map list_in links in
    let within : x < length links = on_below links x list onx in
    let at : get_or on x None ≡ Some list = get_or-map list_in links x loose None within ∙ onx in
    let one : 1 ≤ count_by (is_on list) on = count_some (is_on list) on x None (omega (arith, length-map links list_in)) (ap (is_on list) at ∙ same_number list) in
    omega (arith, t.counted list ((t.members list x onx).known))
